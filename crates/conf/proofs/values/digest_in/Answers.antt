use Rattle.std.proofs.Common.{◌≡◌, ℕ, List, Option, Some, None, ap, refl, rules, sym}
use Rattle.std.specs.Prelude.{option_and_then, unwrap_or, codes}
use Rattle.toml.specs.Data.{Data, string, integer, float, boolean, datetime, array, table, as_str, get_member}
use Rattle.toml.specs.View.{table_view}
use Rattle.settings.specs.Words.{sign_digest_of_word}
use Rattle.settings.specs.declared.sign_conf.SignDigest.TheVariants.{No}
use Rattle.conf.specs.Sections.{digest_of}
use Rattle.conf.specs.Table.{members_at}
use Rattle.conf_values.specs.declared.table.TableName.TheVariants.{Sign}
use Rattle.conf.proofs.values.digest_in.Goals as goal

-- what is no string asks for no digest
of_none : (found : Option Data) → option_and_then as_str found ≡ None → digest_of found ≡ No
of_none None is = refl
of_none (Some (string own)) is = absurd cc
of_none (Some (integer z)) is = refl
of_none (Some (float x)) is = refl
of_none (Some (boolean b)) is = refl
of_none (Some (datetime d)) is = refl
of_none (Some (array items)) is = refl
of_none (Some (table pairs)) is = refl

-- a string asks for the digest of its word
of_text : (found : Option Data) (text : List ℕ) → option_and_then as_str found ≡ Some text → digest_of found ≡ unwrap_or (sign_digest_of_word text) No
of_text None text is = absurd cc
of_text (Some (string own)) text is =
    let same : own ≡ text = search (rules, is) in
    ap (λ (t : List ℕ). unwrap_or (sign_digest_of_word t) No) same
of_text (Some (integer z)) text is = absurd cc
of_text (Some (float x)) text is = absurd cc
of_text (Some (boolean b)) text is = absurd cc
of_text (Some (datetime d)) text is = absurd cc
of_text (Some (array items)) text is = absurd cc
of_text (Some (table pairs)) text is = absurd cc

pub returns-in-None : goal.returns-in-None
returns-in-None c =
    let found = get_member (codes "digest") (members_at (table_view c.args.tables.document.now) Sign) in
    let none : option_and_then as_str found ≡ None = search (rules, c.text_at.ensures, c.in-None.is) in
    sym (of_none found none)

pub returns-in-Some : goal.returns-in-Some
returns-in-Some c =
    let found = get_member (codes "digest") (members_at (table_view c.args.tables.document.now) Sign) in
    let text : option_and_then as_str found ≡ Some c.in-Some.word.now = search (rules, c.text_at.ensures, c.in-Some.is) in
    let is : digest_of found ≡ unwrap_or (sign_digest_of_word c.in-Some.word.now) No = of_text found c.in-Some.word.now text in
    search (rules, is, c.of_word.ensures, c.as_bytes.ensures.value, c.unwrap_or.ensures)
