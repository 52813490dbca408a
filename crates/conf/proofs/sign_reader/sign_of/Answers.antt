use Rattle.std.proofs.Common.{◌≡◌, ℕ, List, Option, Some, None, ap, rules}
use Rattle.std.specs.Prelude.{option_and_then, codes}
use Rattle.toml.specs.Data.{Data, string, integer, float, boolean, datetime, array, table, as_str, get_member}
use Rattle.toml.specs.View.{table_view}
use Rattle.conf.specs.Table.{members_at}
use Rattle.conf_values.specs.declared.table.TableName.TheVariants.{Sign}
use Rattle.conf.proofs.sign_reader.sign_of.Goals as goal

-- what is a string is the string
string_of : (found : Option Data) (text : List ℕ) → option_and_then as_str found ≡ Some text → found ≡ Some (string text)
string_of None text is = absurd cc
string_of (Some (string own)) text is = let same : own ≡ text = search (rules, is) in ap (λ (t : List ℕ). Some (string t)) same
string_of (Some (integer z)) text is = absurd cc
string_of (Some (float x)) text is = absurd cc
string_of (Some (boolean b)) text is = absurd cc
string_of (Some (datetime d)) text is = absurd cc
string_of (Some (array items)) text is = absurd cc
string_of (Some (table pairs)) text is = absurd cc

pub returns : goal.returns
returns c =
    let pairs = members_at (table_view c.args.tables.document.now) Sign in
    let label : option_and_then as_str (get_member (codes "label") pairs) ≡ Some c.in_ok-from_bytes.field-0 =
    search (rules, c.text_at.ensures, c.in-Some.is, c.in_ok-from_bytes.ensures.ok, c.as_bytes.ensures.value) in
    let keyid : option_and_then as_str (get_member (codes "keyid") pairs) ≡ Some c.in_ok-from_bytes-2.field-0 =
    search (rules, c.text_at-2.ensures, c.in-Some-text_at.is, c.in_ok-from_bytes-2.ensures.ok, c.as_bytes-2.ensures.value) in
    record {
      label = string_of (get_member (codes "label") pairs) c.in_ok-from_bytes.field-0 label;
      keyid = string_of (get_member (codes "keyid") pairs) c.in_ok-from_bytes-2.field-0 keyid;
      components_request = rw c.request.view_is c.requires.request;
      components_response = rw c.response.view_is c.requires.response;
      expires_after = c.seconds_in.ensures;
      alg = c.has_alg.ensures;
      tag = search (rules, c.in_ok-read_tag.ensures);
      digest = c.digest_in.ensures;
    }
