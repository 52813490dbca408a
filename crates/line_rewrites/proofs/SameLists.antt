-- Lists of field lines that have the same of a name.
use Rattle.std.proofs.Common.{◌≡◌, ℕ, List, codes, refl, sym, ◌∙◌, ap}
use Rattle.std.specs.List.{join_by}
use Rattle.msg_head.specs.Lines.{FieldLine}
use Rattle.msg_head.specs.Values.{combined_value, is_there, values}
use Rattle.msg_body.specs.SameFields.{HasSameField, HasSameValues}

pub same_values_of : (lines others xs ys : List FieldLine) (name : List ℕ) → lines ≡ xs → others ≡ ys → HasSameValues xs ys name → HasSameValues lines others name
same_values_of lines others xs ys name lines_are others_are same = record {
  there = ap (λ (ls : List FieldLine). is_there ls name) others_are ∙ (same.there ∙ ap (λ (ls : List FieldLine). is_there ls name) (sym lines_are));
  same = ap (λ (ls : List FieldLine). values ls name) others_are ∙ (same.same ∙ ap (λ (ls : List FieldLine). values ls name) (sym lines_are));
}

pub same_field_of : (lines others xs ys : List FieldLine) (name : List ℕ) → lines ≡ xs → others ≡ ys → HasSameField xs ys name → HasSameField lines others name
same_field_of lines others xs ys name lines_are others_are same = record {
  there = ap (λ (ls : List FieldLine). is_there ls name) others_are ∙ (same.there ∙ ap (λ (ls : List FieldLine). is_there ls name) (sym lines_are));
  combined = ap (λ (ls : List FieldLine). combined_value ls name) others_are
      ∙ (same.combined ∙ ap (λ (ls : List FieldLine). combined_value ls name) (sym lines_are));
}

pub values_turned : (lines others : List FieldLine) (name : List ℕ) → HasSameValues lines others name → HasSameValues others lines name
values_turned lines others name same = record { there = sym same.there; same = sym same.same }

pub field_turned : (lines others : List FieldLine) (name : List ℕ) → HasSameField lines others name → HasSameField others lines name
field_turned lines others name same = record { there = sym same.there; combined = sym same.combined }

pub field_of_values : (lines others : List FieldLine) (name : List ℕ) → HasSameValues lines others name → HasSameField lines others name
field_of_values lines others name same = record {
  there = same.there;
  combined = ap (λ (texts : List (List ℕ)). join_by (λ (text : List ℕ). text) (codes ", ") texts) same.same;
}

pub itself : (lines : List FieldLine) (name : List ℕ) → HasSameValues lines lines name
itself lines name = record { there = refl; same = refl }

pub field_itself : (lines : List FieldLine) (name : List ℕ) → HasSameField lines lines name
field_itself lines name = record { there = refl; combined = refl }
