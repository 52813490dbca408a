-- What the text of a configuration says.
use Rattle.std.specs.Prelude.{◌≡◌, ℕ, Option, Some, None, IsSomeAnd, IsTrue, IsUtf8, List, codes, unwrap_or}
use Rattle.std.specs.FinMap as map
use Rattle.toml.specs.Data.{Data, Members, string, get_member}
use Rattle.toml.specs.Parse.{parse_document}
use Rattle.component_ids.specs.Types.{KindMap, kind_in, standard_types}
use Rattle.component_ids.specs.declared.types.FieldKind.{FieldKind}
use Rattle.component_ids.specs.declared.scheme.Scheme.{Scheme}
use Rattle.component_ids.specs.declared.scheme.Scheme.TheVariants.{Https}
use Rattle.conf.specs.Table.{rows, places, members_in, version_in, has_unknown, is_missing}
use Rattle.settings.specs.Words.{kind_of_word, scheme_of_word}
use Rattle.conf_values.specs.Values.{IsKeyText}
use Rattle.conf.specs.Rows.{is_ill_typed, is_out_of_range}
use Rattle.conf.specs.Sections.{ArePolicies, HasGateway, HasSign, kept_nonces}
use Rattle.settings.specs.Configuration.{Configuration}
use Rattle.settings.specs.Keys.{KeyMap}
use Rattle.conf.specs.Paths.{HoldsOfNone}

-- the text is UTF-8, and TOML reads this document in it
abbrev pub IsDocument : List ℕ → Members → Type 0
IsDocument text document = IsUtf8 text × (parse_document text ≡ Some document)

-- ---- the values of keys

-- the scheme: `https` where nothing is said
abbrev pub configured_scheme : Option Data → Scheme
configured_scheme (Some (string word)) = unwrap_or (scheme_of_word word) Https
configured_scheme value = Https

-- the key that a keyid has: the one of the text, or none
abbrev pub HasKey : Option Data → Option (List ℕ) → Type 0
HasKey None key = key ≡ None
HasKey (Some (string text)) key = IsSomeAnd key (IsKeyText text)
HasKey (Some value) key = ⊥

-- each keyid has the key that the table says
abbrev pub AreKeys : Members → KeyMap → Type 0
AreKeys pairs keys = (keyid : List ℕ) → HasKey (get_member keyid pairs) (map.get keys keyid)

-- the kind that is configured for a field, or else the one that it has by its own standard
abbrev pub configured_kind : Option Data → Option FieldKind → Option FieldKind
configured_kind (Some (string word)) known = kind_of_word word
configured_kind value known = known

-- each field has the kind that the table says, or else the standard one
abbrev pub AreTypes : Members → KindMap → Type 0
AreTypes pairs types =
    (name : List ℕ)
    → kind_in types name ≡ configured_kind (get_member name pairs) (kind_in standard_types name)

-- ---- configurations

-- the document is this configuration: its keys are known and there where they are required, their
-- values have the right types and are allowed, and they say this
pub record IsConfiguration (document : Members) (conf : Configuration) : Type 0 where
  pub known : HoldsOfNone (λ place. IsTrue (has_unknown document place)) places
  pub typed : HoldsOfNone (λ row. IsTrue (is_ill_typed document row)) rows
  pub allowed : HoldsOfNone (λ row. IsTrue (is_out_of_range document row)) rows
  pub complete : HoldsOfNone (λ row. IsTrue (is_missing document row)) rows
  pub scheme : conf.scheme ≡ configured_scheme (get_member (codes "scheme") document)
  pub keys : AreKeys (members_in (get_member (codes "keys") document)) conf.keys
  pub types : AreTypes (members_in (get_member (codes "types") document)) conf.types
  pub policies : ArePolicies (version_in document) document conf.policies
  pub nonces : conf.nonces ≡ kept_nonces (version_in document) document
  pub sign : HasSign (get_member (codes "sign") document) conf.sign
  pub gateway : HasGateway (get_member (codes "gateway") document) conf.gateway

-- the text is that of a document that is this configuration
abbrev pub Configures : List ℕ → Configuration → Type 0
Configures text conf =
    (document : Members) × IsDocument text document × IsConfiguration document conf
