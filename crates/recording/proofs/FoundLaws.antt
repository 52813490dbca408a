-- What is found of the bytes that are held.
use Rattle.std.proofs.Common.{◌≡◌, ℕ, ◌+◌, ◌-◌, ◌≤◌, List, ◌++◌, length, drop, Some, Ok, refl, sym, ap, ◌∙◌, append_assoc, arith, codes}
use Rattle.std.proofs.lemmas.List.{length-append, drop_at}
use Rattle.recording.specs.Items.{Body, moment, body_text}
use Rattle.recording.specs.tools.NextItems.{BeginsWithFirst}
use Rattle.recording.specs.tools.ReaderSteps.{IsFound, IsFirstFound}
use Rattle.recording.specs.tools.RecordingWalk.{item_step}
use Rattle.recording.specs.tools.Running.{moment_after}
use Rattle.recording.proofs.SizeLaws.{body_short}
use Rattle.recording.proofs.WalkLaws.{step_some, step_item}

pub next_found : (last : ℕ) (bytes rest : List ℕ) (body : Body) (after : ℕ) → item_step last bytes ≡ Ok (Some body, rest) → after ≡ moment_after last body
    → IsFound last bytes (record { skipped = 0; len = length bytes - length rest; moment = after })
next_found last bytes rest body after e is =
    let s = step_some last bytes body rest e in
    let line : List ℕ = body_text body in
    let size : length bytes ≡ length line + length rest = ap (λ (y : List ℕ). length y) s.0 ∙ length-append line rest in
    let len : length line ≡ 0 + (length bytes - length rest) = omega (arith, size) in
    let left : rest ≡ drop (0 + (length bytes - length rest)) bytes = sym (ap (drop (0 + (length bytes - length rest))) s.0 ∙ drop_at line rest (0 + (length bytes - length rest)) len) in
    record {
      body = body;
      within = omega (arith, size);
      some = omega (arith, s.3);
      few = omega (arith, size, body_short last body s.1 s.2);
      size = omega (arith, size);
      step = e ∙ ap (λ (y : List ℕ). Ok (Some body, y)) left;
      after = is;
    }

pub first_found : (text rest : List ℕ) (n : ℕ) → BeginsWithFirst n rest text → IsFirstFound text (record { skipped = 16; len = length text - 16 - length rest; moment = n })
first_found text rest n b =
    let magic = codes "hms-recording 1\n" in
    let line : List ℕ = body_text (moment n) in
    let size : length text ≡ 16 + (length line + length rest) = omega (arith, ap (λ (y : List ℕ). length y) b.joined, length-append magic (line ++ rest), length-append line rest) in
    let after : drop 16 text ≡ line ++ rest = ap (drop 16) b.joined in
    let len : length (magic ++ line) ≡ 16 + (length text - 16 - length rest) = omega (arith, size, length-append magic line) in
    let left : drop (16 + (length text - 16 - length rest)) text ≡ rest =
    ap (drop (16 + (length text - 16 - length rest))) (b.joined ∙ sym (append_assoc magic line rest)) ∙ drop_at (magic ++ line) rest (16 + (length text - 16 - length rest)) len in
    record {
      skipped = refl;
      line = b.joined ∙ ap (λ (y : List ℕ). magic ++ y) (sym after);
      item = record {
        body = moment n;
        within = omega (arith, size);
        some = omega (arith, size);
        few = omega (arith, size, body_short 0 (moment n) b.number (omega arith));
        size = omega (arith, size);
        step = ap (item_step 0) after ∙ step_item 0 (moment n) rest b.number (omega arith) ∙ ap (λ (y : List ℕ). Ok (Some (moment n), y)) (sym left);
        after = refl;
      };
      is = refl;
    }

pub first_within : (text rest : List ℕ) (n : ℕ) → BeginsWithFirst n rest text → 16 + length rest ≤ length text
first_within text rest n b =
    let magic = codes "hms-recording 1\n" in
    let line : List ℕ = body_text (moment n) in
    omega (arith, ap (λ (y : List ℕ). length y) b.joined, length-append magic (line ++ rest), length-append line rest)
