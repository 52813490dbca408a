use Rattle.std.proofs.Common.{◌≡◌, ◌∙◌, ◌-◌, ℕ, List, ◌++◌, length, take, Result, Ok, ap, arith, sym, append_assoc}
use Rattle.std.proofs.lemmas.List.{length-append, take_at}
use Rattle.std.specs.Char.{is_ascii_hexdigit}
use Rattle.std.specs.Str.Parse.{digits_value}
use Rattle.byte_grammar.specs.Walk.{◌>>=◌, run_read}
use Rattle.framing.specs.declared.chunk_limits.TheConstants.{MAX_SIZE_DIGITS}
use Rattle.framing.specs.tools.ChunkWalk.{crlf_read, extension_read, line_read}
use Rattle.framing.proofs.line.read_line.Goals as goal

-- the text before what is left
text_is : (bytes d r e s : List ℕ) → bytes ≡ d ++ r → r ≡ e ++ s → take (length bytes - length s) bytes ≡ d ++ e
text_is bytes d r e s one two =
    let whole : bytes ≡ (d ++ e) ++ s = cc (one, two, append_assoc d e s) in
    let count : length (d ++ e) ≡ length bytes - length s = omega (arith, ap (λ (y : List ℕ). length y) whole, length-append (d ++ e) s) in
    ap (λ (y : List ℕ). take (length bytes - length s) y) whole ∙ take_at (d ++ e) s (length bytes - length s) count

line_given : (bytes d r e s w t : List ℕ) → run_read is_ascii_hexdigit 1 MAX_SIZE_DIGITS bytes ≡ Ok (d, r) → extension_read r ≡ Ok (e, s) → crlf_read s ≡ Ok (w, t) → line_read bytes ≡ Ok ((d ++ e, digits_value 16 d), t)
unfolding line_read
line_given bytes d r e s w t one two three =
    ap (λ (x : Result (List ℕ × List ℕ) ℕ). x >>= λ d. extension_read d.1 >>= λ e. crlf_read e.1 >>= λ c. Ok ((d.0 ++ e.0, digits_value 16 d.0), c.1)) one
    ∙ ap (λ (x : Result (List ℕ × List ℕ) ℕ). x >>= λ e. crlf_read e.1 >>= λ c. Ok ((d ++ e.0, digits_value 16 d), c.1)) two
    ∙ ap (λ (x : Result (List ℕ × List ℕ) ℕ). x >>= λ c. Ok ((d ++ e, digits_value 16 d), c.1)) three

pub slice_bounds-text-count : goal.slice_bounds-text-count
slice_bounds-text-count c =
    omega (arith, ap (λ (y : List ℕ). length y) c.in_ok-digits.ensures.joined, ap (λ (y : List ℕ). length y) c.in_ok-_extension.ensures.joined, length-append c.in_ok-digits.digits.now c.in_ok-digits.rest.now, length-append c.in_ok-_extension._extension.now c.in_ok-_extension.rest.now)

pub returns : goal.returns
returns c =
    let text = text_is c.args.bytes.now c.in_ok-digits.digits.now c.in_ok-digits.rest.now c.in_ok-_extension._extension.now c.in_ok-_extension.rest.now c.in_ok-digits.ensures.joined c.in_ok-_extension.ensures.joined in
    record {
      gives = line_given c.args.bytes.now _ _ _ _ _ _ c.in_ok-digits.ensures.gives c.in_ok-_extension.ensures.gives c.in_ok-rest.ensures
          ∙ λ i. Ok ((sym text i, sym c.size_of-size.ensures i), c.in_ok-rest.rest.now);
    }
