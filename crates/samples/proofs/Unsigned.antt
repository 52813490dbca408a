-- The unsigned request of a seed is one whole message.
use Rattle.std.proofs.Common.{◌≡◌, inl, ℕ, ◌+◌, ◌%◌, ◌≤◌, false, List, [], ◌∷◌, ◌++◌, length, codes, refl, sym, ap, subst, ◌∙◌, append_assoc, arith}
use Rattle.std.specs.List.{All}
use Rattle.std.proofs.lemmas.List.{length-append}
use Rattle.std.proofs.lemmas.List.Elements.{All-cons}
use Rattle.std.proofs.lemmas.List.FromFn.{length-map-range_with_len}
use Rattle.msg_head.specs.Lines.{FieldLine, IsLine}
use Rattle.msg_head.specs.Starts.{request}
use Rattle.msg_head.specs.Heads.{Head, IsHead}
use Rattle.framing.specs.Chunks.{Chunk, Chunks, AreChunks, IsChunk, IsChunkLine}
use Rattle.framing.specs.Framings.{IsFramable}
use Rattle.framing.specs.declared.kind.Framing.TheVariants.{Chunked}
use Rattle.msg_body.specs.Bodies.{chunked}
use Rattle.msg_body.specs.Messages.{Message, IsMessage, message_text}
use Rattle.msg_body.specs.WholeTexts.{one_request}
use Rattle.msg_body.specs.declared.limits.TheConstants.{MAX_MESSAGE_BYTES}
use Rattle.msg_body.proofs.WholeTexts.{one_whole}
use Rattle.samples.specs.Chains.{IsUnsigned}
use Rattle.samples.specs.Requests.{content_bytes, content_of, request_head, request_text}

-- ---- the parts

abbrev pub host : FieldLine
host = record { name = codes "Host"; raw = codes " sample.example" }

abbrev pub date : FieldLine
date = record { name = codes "Date"; raw = codes " Tue, 20 Apr 2021 02:07:55 GMT" }

abbrev pub coding : FieldLine
coding = record { name = codes "Transfer-Encoding"; raw = codes " chunked" }

abbrev pub lines : List FieldLine
lines = host ∷ date ∷ coding ∷ []

abbrev head : Head
head = record {
  start = request (record { method = codes "POST"; target = codes "/sample"; version = codes "HTTP/1.1" });
  lines = lines;
}

abbrev chunk : List ℕ → Chunk
chunk content = record { line = codes "186a0"; chunk_data = content }

abbrev pub chunks : List ℕ → Chunks
chunks content = record { chunks = chunk content ∷ []; last = codes "0" }

abbrev pub message_with : List ℕ → Message
message_with content = record { head = head; framing = Chunked; body = chunked (chunks content) [] }

-- ---- they are those of a message

no_lines : All IsLine []
no_lines k d lt = absurd (omega arith)

is_host : IsLine host
is_host = record { name = refl; raw = (record { first = host.raw; continued = [] }, refl, refl) }

is_date : IsLine date
is_date = record { name = refl; raw = (record { first = date.raw; continued = [] }, refl, refl) }

is_coding : IsLine coding
is_coding = record { name = refl; raw = (record { first = coding.raw; continued = [] }, refl, refl) }

are_lines : All IsLine lines
are_lines =
    All-cons IsLine host (date ∷ coding ∷ []) is_host
    (All-cons IsLine date (coding ∷ []) is_date (All-cons IsLine coding [] is_coding no_lines))

is_head : IsHead head
is_head = record {
  start = record { method = refl; target = refl; version = refl };
  lines = are_lines;
  few = omega arith;
  short = omega arith;
}

framable : IsFramable head
framable = record { no_conflict = refl; lengths = refl; codings = refl }

is_chunk_line : (size : ℕ) → size ≡ 100000 → IsChunkLine (codes "186a0") size
is_chunk_line size is = record {
  digits = codes "186a0";
  extension = [];
  joined = refl;
  are_digits = record { same = refl; passes = refl; least = omega arith; most = omega arith };
  value = is;
  is_extension = record { begins = inl refl; clean = refl; short = omega arith };
}

is_last_line : IsChunkLine (codes "0") 0
is_last_line = record {
  digits = codes "0";
  extension = [];
  joined = refl;
  are_digits = record { same = refl; passes = refl; least = omega arith; most = omega arith };
  value = refl;
  is_extension = record { begins = inl refl; clean = refl; short = omega arith };
}

no_chunks : All IsChunk []
no_chunks k d lt = absurd (omega arith)

pub are_chunks : (content : List ℕ) → length content ≡ 100000 → AreChunks (chunks content)
are_chunks content long = record {
  each = All-cons IsChunk (chunk content) [] (record { line = is_chunk_line (length content) long; some = omega arith }) no_chunks;
  last = is_last_line;
}

-- ---- the text

-- what comes after the line of the chunk
tail_is : (content : List ℕ) → content ++ codes "\r\n0\r\n\r\n" ≡ (((content ++ codes "\r\n") ++ []) ++ codes "0\r\n") ++ codes "\r\n"
tail_is content = simp append_assoc

text_is : (content : List ℕ) → request_head ++ (content ++ codes "\r\n0\r\n\r\n") ≡ message_text (message_with content)
text_is content = ap (λ (rest : List ℕ). request_head ++ rest) (tail_is content)

length_is : (content : List ℕ) → length (request_head ++ (content ++ codes "\r\n0\r\n\r\n")) ≡ length content + 126
length_is content = omega (arith, length-append request_head (content ++ codes "\r\n0\r\n\r\n"), length-append content (codes "\r\n0\r\n\r\n"))

pub text_length : (content : List ℕ) → length (message_text (message_with content)) ≡ length content + 126
text_length content = ap (λ (text : List ℕ). length text) (sym (text_is content)) ∙ length_is content

-- ---- the message

pub content_joined : (content : List ℕ) → length (content ++ []) ≡ length content
content_joined content = omega (arith, length-append content [])

is_message : (content : List ℕ) → length content ≡ 100000 → IsMessage false (message_with content)
is_message content long = record {
  head = is_head;
  framable = framable;
  framing = refl;
  body = (are_chunks content long, record { each = no_lines; few = omega arith; short = omega arith });
  content = omega (arith, content_joined content);
  short = subst (λ (text : List ℕ). length text ≤ MAX_MESSAGE_BYTES) (text_is content) (omega (arith, length_is content));
}

-- ---- the request of a seed

pub content_length : (seed : ℕ) → length (content_of seed) ≡ content_bytes
content_length seed = length-map-range_with_len (λ j. (j + seed) % 256) 0 content_bytes

-- the number is the limit's
pub bytes_are : content_bytes ≡ 100000
unfolding content_bytes
bytes_are = refl

pub whole_with : (seed : ℕ) → IsUnsigned seed (message_with (content_of seed))
whole_with seed = record {
  expected = refl;
  spells = record {
    is = is_message (content_of seed) (content_length seed ∙ bytes_are);
    text = text_is (content_of seed);
  };
}

pub unsigned_is : (seed : ℕ) → (message : Message) × IsUnsigned seed message
unsigned_is seed = (message_with (content_of seed), whole_with seed)

-- it is the only one
pub unsigned_one : (seed : ℕ) (message : Message) → IsUnsigned seed message → message ≡ message_with (content_of seed)
unsigned_one seed message is = one_whole one_request (request_text seed) message (message_with (content_of seed)) is (whole_with seed)

-- it is short enough to be read
pub request_short : (seed : ℕ) → length (request_text seed) ≤ MAX_MESSAGE_BYTES
request_short seed = omega (arith, length_is (content_of seed), content_length seed, bytes_are)
