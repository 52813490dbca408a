-- Bytes after a head begin with at most one body of a framing.
use Rattle.std.proofs.Common.{◌≡◌, ℕ, ◌+◌, ◌≤◌, List, length, take, drop, refl, sym, ap, ◌∙◌, arith}
use Rattle.std.proofs.lemmas.List.{length-take-le}
use Rattle.msg_head.specs.Lines.{FieldLine}
use Rattle.msg_head.specs.Trailers.{SpellsTrailer, IsTrailerUnfinished, trailer_text}
use Rattle.msg_head.specs.TrailerCauses.{IsTrailerError}
use Rattle.framing.specs.declared.chunk_limits.TheConstants.{MAX_CONTENT_BYTES}
use Rattle.framing.specs.Chunks.{Chunks, SpellsChunks, chunks_text}
use Rattle.framing.specs.ChunkCauses.{IsChunksError, AreChunksUnfinished}
use Rattle.framing.specs.declared.kind.Framing.{Framing}
use Rattle.framing.specs.declared.kind.Framing.TheVariants.{None, Length, Chunked, ToEnd}
use Rattle.msg_body.specs.declared.error.MessageError.{MessageError}
use Rattle.msg_body.specs.Bodies.{Body, plain, chunked, content_in}
use Rattle.msg_body.specs.Errors.{chunk_error, trailer_error}
use Rattle.msg_body.specs.Causes.{IsBodyError, IsBodyUnfinished}
use Rattle.msg_body.specs.tools.Decided.{IsDecided, IsFaultAs, AreParts}
use Rattle.msg_body.specs.tools.Judged.{SpellsBody}
use Rattle.msg_body.proofs.Decided.{renamed, then_decided, as_whole}
use Rattle.msg_body.proofs.Joins.{parted}
use Rattle.msg_body.proofs.Lower.{chunks_decided, trailer_decided}

-- ---- content as it is

-- so many bytes are the content, and it is plain
abbrev pub IsPlain : List ℕ → ℕ → Body → ℕ → Type 0
IsPlain bytes count body n = (body ≡ plain (take n bytes)) × (n ≡ count)

pub none_plain : (count : ℕ) (bytes : List ℕ) (body : Body) (n : ℕ) → SpellsBody None count body n bytes → IsPlain bytes 0 body n
none_plain count bytes (plain content) n s =
    (ap plain (sym s.text), sym (length-take-le n bytes s.within) ∙ ap (length {A = ℕ}) (s.text ∙ s.is))
none_plain count bytes (chunked chunks trailers) n s = absurd s.is

pub length_plain : (count : ℕ) (bytes : List ℕ) (body : Body) (n : ℕ) → SpellsBody Length count body n bytes → IsPlain bytes count body n
length_plain count bytes (plain content) n s =
    (ap plain (sym s.text), sym (length-take-le n bytes s.within) ∙ ap (length {A = ℕ}) s.text ∙ s.is)
length_plain count bytes (chunked chunks trailers) n s = absurd s.is

pub end_plain : (count : ℕ) (bytes : List ℕ) (body : Body) (n : ℕ) → SpellsBody ToEnd count body n bytes → IsPlain bytes (length bytes) body n
end_plain count bytes (plain content) n s = (ap plain (sym s.text), s.all refl)
end_plain count bytes (chunked chunks trailers) n s = absurd s.is

one_plain : (bytes : List ℕ) (count : ℕ) (body other : Body) (n m : ℕ) → IsPlain bytes count body n → IsPlain bytes count other m → (body ≡ other) × (n ≡ m)
one_plain bytes count body other n m a b =
    let same = a.1 ∙ sym b.1 in (a.0 ∙ ap (λ k. plain (take k bytes)) same ∙ sym b.0, same)

-- the content is no longer than it may be
content_short : (framing : Framing) (count : ℕ) (bytes : List ℕ) (k : ℕ) (body : Body) (n : ℕ) → SpellsBody framing count body n bytes → IsPlain bytes k body n → k ≤ MAX_CONTENT_BYTES
content_short framing count bytes k body n s is =
    let sized : length (content_in body) ≡ n = ap (λ (b : Body). length (content_in b)) is.0 ∙ length-take-le n bytes s.within in
    let short = s.content in
    let used = is.1 in
    omega (arith, sized, short, used)

none_decided : (count start : ℕ) (bytes : List ℕ) → IsDecided (λ body n. SpellsBody None count body n bytes) (λ fault. IsBodyError None count start fault bytes) (IsBodyUnfinished None count bytes)
none_decided count start bytes = record {
  one = λ body other n m a b. one_plain bytes 0 body other n m (none_plain count bytes body n a) (none_plain count bytes other m b);
  one_fault = λ f g a b. absurd a;
  no_fault = λ body n f s a. a;
  open_fault = λ f more a. a;
  open_part = λ body n more s. more;
}

length_decided : (count start : ℕ) (bytes : List ℕ) → IsDecided (λ body n. SpellsBody Length count body n bytes) (λ fault. IsBodyError Length count start fault bytes) (IsBodyUnfinished Length count bytes)
length_decided count start bytes = record {
  one = λ body other n m a b. one_plain bytes count body other n m (length_plain count bytes body n a) (length_plain count bytes other m b);
  one_fault = λ f g a b. a.1 ∙ sym b.1;
  no_fault = no_fault;
  open_fault = open_fault;
  open_part = open_part;
}
  where
    no_fault : (body : Body) (n : ℕ) (f : MessageError) → SpellsBody Length count body n bytes → ¬ IsBodyError Length count start f bytes
    no_fault body n f s a =
        let short = content_short Length count bytes count body n s (length_plain count bytes body n s) in
        let long = a.0 in
        omega (arith, short, long)

    open_fault : (f : MessageError) → IsBodyUnfinished Length count bytes → ¬ IsBodyError Length count start f bytes
    open_fault f more a =
        let short = more.0 in
        let long = a.0 in
        omega (arith, short, long)

    open_part : (body : Body) (n : ℕ) → IsBodyUnfinished Length count bytes → ¬ SpellsBody Length count body n bytes
    open_part body n more s =
        let used = (length_plain count bytes body n s).1 in
        let within = s.within in
        let less = more.1 in
        omega (arith, used, within, less)

end_decided : (count start : ℕ) (bytes : List ℕ) → IsDecided (λ body n. SpellsBody ToEnd count body n bytes) (λ fault. IsBodyError ToEnd count start fault bytes) (IsBodyUnfinished ToEnd count bytes)
end_decided count start bytes = record {
  one = λ body other n m a b. one_plain bytes (length bytes) body other n m (end_plain count bytes body n a) (end_plain count bytes other m b);
  one_fault = λ f g a b. a.1 ∙ sym b.1;
  no_fault = no_fault;
  open_fault = λ f more a. more;
  open_part = λ body n more s. more;
}
  where
    no_fault : (body : Body) (n : ℕ) (f : MessageError) → SpellsBody ToEnd count body n bytes → ¬ IsBodyError ToEnd count start f bytes
    no_fault body n f s a =
        let short = content_short ToEnd count bytes (length bytes) body n s (end_plain count bytes body n s) in
        let long = a.0 in
        omega (arith, short, long)

-- ---- content in chunks

-- a trailer section comes next
abbrev pub NextTrailer : Chunks → ℕ → List ℕ → List FieldLine → ℕ → Type 0
NextTrailer chunks used rest lines n = SpellsTrailer lines n rest

abbrev pub body_in_chunks : Chunks × List FieldLine → Body
body_in_chunks parts = chunked parts.0 parts.1

-- its parts are one after the other
chunked_made : (count : ℕ) (bytes : List ℕ) (body : Body) (n : ℕ) → SpellsBody Chunked count body n bytes
    → (parts : Chunks × List FieldLine) × AreParts SpellsChunks NextTrailer bytes parts n × (body ≡ body_in_chunks parts)
chunked_made count bytes (plain content) n s = absurd s.is
chunked_made count bytes (chunked chunks trailers) n s =
    let at = parted bytes (chunks_text chunks) (trailer_text trailers) n s.within s.text in (
      (chunks, trailers),
      record {
        count = length (chunks_text chunks);
        rest = at.rest;
        first = record { within = at.within; text = record { are = s.is.0; text = at.first_is }; short = s.content };
        second = record { within = at.rest_within; spells = record { is = s.is.1; text = at.second_is } };
        used_is = at.used_is;
      },
      refl,
    )

chunked_decided : (count start : ℕ) (bytes : List ℕ) → IsDecided (λ body n. SpellsBody Chunked count body n bytes) (λ fault. IsBodyError Chunked count start fault bytes) (IsBodyUnfinished Chunked count bytes)
chunked_decided count start bytes =
    as_whole body_in_chunks (AreParts SpellsChunks NextTrailer bytes) (λ body n. SpellsBody Chunked count body n bytes) (λ fault. IsBodyError Chunked count start fault bytes) (IsBodyUnfinished Chunked count bytes)
    (then_decided SpellsChunks (IsFaultAs (chunk_error start) (IsChunksError bytes)) (AreChunksUnfinished bytes)
    NextTrailer (λ chunks used rest. IsFaultAs (trailer_error (start + used)) (IsTrailerError rest)) (λ chunks used rest. IsTrailerUnfinished rest) bytes
    (renamed (chunk_error start) (λ chunks n. SpellsChunks chunks n bytes) (IsChunksError bytes) (AreChunksUnfinished bytes) (chunks_decided bytes))
    (λ chunks used is. renamed (trailer_error (start + used)) (λ lines n. SpellsTrailer lines n (drop used bytes)) (IsTrailerError (drop used bytes)) (IsTrailerUnfinished (drop used bytes)) (trailer_decided (drop used bytes))))
    (chunked_made count bytes)

pub body_decided : (framing : Framing) (count start : ℕ) (bytes : List ℕ) → IsDecided (λ body n. SpellsBody framing count body n bytes) (λ fault. IsBodyError framing count start fault bytes) (IsBodyUnfinished framing count bytes)
body_decided None count start bytes = none_decided count start bytes
body_decided Length count start bytes = length_decided count start bytes
body_decided Chunked count start bytes = chunked_decided count start bytes
body_decided ToEnd count start bytes = end_decided count start bytes
