-- Lists and Dictionaries, read over lists from left to right. No public clause cites this module.
use Rattle.std.specs.Prelude.{true, List, [], ◌∷◌, ◌++◌, Option, Some, None, Ok}
use Rattle.byte_grammar.specs.Walk.{Reader, ◌>>=◌, byte_read, all_read}
use Rattle.byte_grammar.specs.tools.Walks.{optional_read, choose_read, turns_read, with_state}
use Rattle.sfv_text.specs.declared.value.Member.{Member}
use Rattle.sfv_text.specs.declared.value.Member.TheVariants.{Item as ItemMember, InnerList as InnerMember}
use Rattle.sfv_text.specs.declared.pair.Pair.{Pair}
use Rattle.byte_grammar.specs.Classes.{is_space, is_blank}
use Rattle.sfv_read.specs.Class.{is_open, is_comma, is_equals}
use Rattle.sfv_read.specs.Item.{put_pair}
use Rattle.sfv_read.specs.Member.{true_item}
use Rattle.sfv_read.specs.tools.ItemWalk.{pair_with, key_read, item_read, parameters_read}
use Rattle.sfv_read.specs.tools.InnerWalk.{inner_list_read}

-- ---- members separated by commas, of any kind

unfoldable pub further_read : {V : Type 0} → Reader V → Reader V
further_read p bytes = byte_read is_comma bytes >>= λ c. all_read is_blank c.1 >>= λ s. p s.1

-- a further member where a comma comes
unfoldable pub next_member_read : {V : Type 0} → Reader V → Reader (Option V)
next_member_read p bytes =
    all_read is_blank bytes >>= λ s. optional_read is_comma (λ b. further_read p b) s.1

unfoldable pub members_read : {V : Type 0} → Reader V → Reader (List V)
members_read p bytes = do
  v ← p bytes
  vs ← turns_read (next_member_read p) v.1
  Ok (v.0 ∷ vs.0, vs.1)

abbrev pub members_or_none : {V : Type 0} → Option (List V) → List V
members_or_none None = []
members_or_none (Some vs) = vs

unfoldable pub some_members_read : {V : Type 0} → Reader V → Reader (List V)
some_members_read p bytes =
    optional_read (λ _. true) (λ b. members_read p b) bytes >>= λ o. Ok (members_or_none o.0, o.1)

unfoldable pub separated_read : {V : Type 0} → Reader V → Reader (List V)
separated_read p bytes = all_read is_space bytes >>= λ s. some_members_read p s.1

-- ---- members

unfoldable pub inner_member_read : Reader Member
inner_member_read bytes = inner_list_read bytes >>= λ v. Ok (InnerMember v.0, v.1)

unfoldable pub item_member_read : Reader Member
item_member_read bytes = item_read bytes >>= λ v. Ok (ItemMember v.0, v.1)

unfoldable pub member_read : Reader Member
member_read bytes = choose_read is_open inner_member_read item_member_read bytes

unfoldable pub equals_member_read : Reader Member
equals_member_read bytes = byte_read is_equals bytes >>= λ e. member_read e.1

abbrev pub given_or_true : Option Member → Reader Member
given_or_true None bytes = parameters_read bytes >>= λ ps. Ok (ItemMember (true_item ps.0), ps.1)
given_or_true (Some v) bytes = Ok (v, bytes)

unfoldable pub dict_value_read : Reader Member
dict_value_read bytes =
    optional_read is_equals equals_member_read bytes >>= λ o. given_or_true o.0 o.1

unfoldable pub dict_member_read : Reader (Pair Member)
dict_member_read bytes = do
  k ← key_read bytes
  v ← dict_value_read k.1
  Ok (pair_with k.0 v.0, v.1)

-- ---- Lists and Dictionaries

-- with one more at the end
abbrev pub with_last : {V : Type 0} → List V → V → List V
with_last vs v = vs ++ v ∷ []

abbrev pub list_read : Reader (List Member)
list_read bytes = with_state with_last [] (separated_read member_read bytes)

abbrev pub dict_read : Reader (List (Pair Member))
dict_read bytes = with_state put_pair [] (separated_read dict_member_read bytes)
