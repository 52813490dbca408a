use Rattle.std.proofs.Common.{◌≡◌, ℕ, ◌<◌, Bool, true, false, List, arith, sym, lt-ltb, ltb-true}
use Rattle.std.specs.Bool.{MatchBool}
use Rattle.std.specs.Char.{is_ascii}
use Rattle.std.specs.List.{list_all}
use Rattle.std.specs.Str.{IsAscii, IsNotAscii}
use Rattle.std.proofs.lemmas.Bool.{false_from_ne_true}
use Rattle.std.proofs.lemmas.List.Elements.{All-weaker}
use Rattle.std.proofs.lemmas.List.Sums.{AllPass-from_list_all, list_all-from_AllPass}
use Rattle.std.proofs.lemmas.Str.Ascii.{All-from_ascii, IsAscii-from_all}
use Rattle.component_values.proofs.lines.is_ascii_text.Goals as goal

all_are : (text : List ℕ) → IsAscii text → list_all is_ascii text ≡ true
all_are text h = list_all-from_AllPass is_ascii text (All-weaker (λ b. b < 128) (λ b. is_ascii b ≡ true) (λ b less. lt-ltb b 128 less) text (All-from_ascii text h))

not_all : (text : List ℕ) → IsNotAscii text → list_all is_ascii text ≡ false
not_all text h =
    false_from_ne_true _ (λ all.
    let ascii = All-weaker (λ b. is_ascii b ≡ true) (λ b. b < 128) (λ b e. ltb-true b 128 e) text (AllPass-from_list_all is_ascii text all) in
    omega (arith, IsAscii-from_all text ascii h.0, h.1))

test_is : (text : List ℕ) (result : Bool) → MatchBool result (IsAscii text) (IsNotAscii text) → result ≡ list_all is_ascii text
test_is text true h = sym (all_are text h)
test_is text false h = sym (not_all text h)

pub returns : goal.returns
returns c = test_is c.args.text.now c.is_ascii.result c.is_ascii.ensures.cases
