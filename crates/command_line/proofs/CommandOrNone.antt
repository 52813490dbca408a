-- Arguments spell some command or none.
use Rattle.std.proofs.Common.{◌≡◌, ◌⊎◌, ℕ, Bool, true, false, ◌&&◌, List, [], ◌∷◌, Option, Some, None, inl, inr, refl, sym, ap, subst, ◌∙◌}
use Rattle.std.proofs.Common.{◌≤◌, arith}
use Rattle.std.specs.Prelude.{codes, nat_le, IsSomeAnd}
use Rattle.std.specs.List.{list_all}
use Rattle.std.specs.Str.{bytes_eq}
use Rattle.std.specs.Str.Parse.{digits_value}
use Rattle.std.proofs.lemmas.Bool.{cases_Bool, and_parts, false≢true}
use Rattle.std.proofs.lemmas.Bool.Decides.{nat_tests}
use Rattle.std.proofs.lemmas.Slice.Eq.{bytes_eq-Decides}
use Rattle.sfv_text.specs.Keys.{have_distinct_keys, value_of}
use Rattle.sfv_text.specs.declared.pair.Pair.{Pair}
use Rattle.command_line.specs.Command.{VerifyWords, SignWords, RewriteWords, ExplainWords, AuditWords, GatewayWords, ListsWords, NegotiateWords, SampleWords, SpellsBase, SpellsVerify, SpellsSign, SpellsRewrite, SpellsExplain, SpellsAudit, SpellsGateway, SpellsLists, SpellsNegotiate, SpellsSample}
use Rattle.command_options.specs.Numbers.{is_number, IsCount, IsSeed}
use Rattle.command_options.specs.Options.{into_word, is_into, may_have, takes, words_of, AreOptions}
use Rattle.command_options.specs.declared.options.CommandName.{CommandName}
use Rattle.command_options.specs.declared.options.CommandName.TheVariants as name
use Rattle.command_options.proofs.OptionLists.{begins, one_list, value_had}

pub first_is : (a b : List ℕ) (x y : List (List ℕ)) → a ∷ x ≡ b ∷ y → (a ≡ b) × (x ≡ y)
first_is a b x y e = (cc, cc)

not_named : (a b : List ℕ) (x y : List (List ℕ)) → bytes_eq a b ≡ false → a ∷ x ≡ b ∷ y → ⊥
not_named a b x y other e = false≢true (sym other ∙ (bytes_eq-Decides a b).1 (first_is a b x y e).0)

-- a value is spelled, or none
abbrev pub SomeOrNone : {V : Type 0} → (V → Type 0) → Type 0
SomeOrNone {V} Spells = ((v : V) × Spells v) ⊎ ((v : V) → Spells v → ⊥)

-- one word alone
pub word_or_not : (word : List ℕ) (arguments : List (List ℕ)) → (arguments ≡ word ∷ []) ⊎ (arguments ≡ word ∷ [] → ⊥)
word_or_not word [] = inr (λ e. absurd cc)
word_or_not word (first ∷ []) = elim (cases_Bool (bytes_eq first word)) [
  | inl same ↦ inl (ap (λ (w : List ℕ). w ∷ []) ((bytes_eq-Decides first word).0 same))
  | inr other ↦ inr (λ e. not_named first word [] [] other e)
]
word_or_not word (first ∷ second ∷ more) = inr (λ e. absurd cc)

-- one word is no pair
no_single : (options : List (Pair (List ℕ))) (word : List ℕ) → word ∷ [] ≡ words_of options → ⊥
no_single [] word e = absurd cc
no_single (p ∷ others) word e = absurd cc

-- words in pairs
pairs_or_none : (words : List (List ℕ)) → ((options : List (Pair (List ℕ))) × (words ≡ words_of options)) ⊎ ((options : List (Pair (List ℕ))) → words ≡ words_of options → ⊥)
pairs_or_none [] = inl ([], refl)
pairs_or_none (word ∷ []) = inr (λ options e. no_single options word e)
pairs_or_none (key ∷ value ∷ words) = elim (pairs_or_none words) [
  | inl some ↦ inl (record { key = key; value = value } ∷ some.0, ap (λ (more : List (List ℕ)). key ∷ value ∷ more) some.1)
  | inr none ↦ inr (λ options e. let rest = begins (record { key = key; value = value } ∷ []) options words e in none rest.0 rest.2)
]

are_right : CommandName → List (Pair (List ℕ)) → Bool
are_right command options =
    have_distinct_keys options && (list_all (λ option. takes command option.key) options && list_all (λ option. may_have option.key option.value) options)

-- options of the command
abbrev OptionsOrNone : CommandName → List (List ℕ) → Type 0
OptionsOrNone command words = SomeOrNone (λ (options : List (Pair (List ℕ))). AreOptions command words options)

right_or_not : (command : CommandName) (words : List (List ℕ)) (options : List (Pair (List ℕ))) → words ≡ words_of options → OptionsOrNone command words
unfolding are_right
right_or_not command words options joined = elim (cases_Bool (are_right command options)) [
  | inl right ↦
      let parts = and_parts (have_distinct_keys options) _ right in
      let others = and_parts (list_all (λ option. takes command option.key) options) _ parts.1 in
      inl (options, record { joined = joined; distinct = parts.0; taken = others.0; had = others.1 })
  | inr wrong ↦ inr (λ other are.
      let same : other ≡ options = one_list other options (sym are.joined ∙ joined) in
      let right : are_right command other ≡ true = rw (are.distinct, are.taken, are.had) refl in
      false≢true (sym wrong ∙ subst (λ (all : List (Pair (List ℕ))). are_right command all ≡ true) same right))
]

options_or_none : (command : CommandName) (words : List (List ℕ)) → OptionsOrNone command words
options_or_none command words = elim (pairs_or_none words) [
  | inl some ↦ right_or_not command words some.0 some.1
  | inr none ↦ inr (λ options are. none options are.joined)
]

-- what the words after a name are options of
are_of : (command : CommandName) (named : List ℕ) (words others : List (List ℕ)) (options : List (Pair (List ℕ)))
    → named ∷ words ≡ named ∷ others → AreOptions command others options → AreOptions command words options
are_of command named words others options joined are =
    subst (λ (all : List (List ℕ)). AreOptions command all options) (sym (first_is named named words others joined).1) are

same_options : (command : CommandName) (words : List (List ℕ)) (options others : List (Pair (List ℕ)))
    → AreOptions command words options → AreOptions command words others → others ≡ options
same_options command words options others are also = one_list others options (sym also.joined ∙ are.joined)

-- what follows from the options, or the words aren't options
with_or_none : {V : Type 0} (Spells : V → Type 0) (command : CommandName) (words : List (List ℕ))
    → ((v : V) → Spells v → (options : List (Pair (List ℕ))) × AreOptions command words options)
    → ((options : List (Pair (List ℕ))) → AreOptions command words options → SomeOrNone Spells) → SomeOrNone Spells
with_or_none Spells command words options_of with_options = elim (options_or_none command words) [
  | inl some ↦ with_options some.0 some.1
  | inr none ↦ inr (λ v is. let options = options_of v is in none options.0 options.1)
]

-- ---- the options that commands need

pub has_word : (found : Option (List ℕ)) → ((word : List ℕ) × (found ≡ Some word)) ⊎ (found ≡ None)
has_word None = inr refl
has_word (Some word) = inl (word, refl)

no_word : (found : Option (List ℕ)) (word : List ℕ) → found ≡ None → found ≡ Some word → ⊥
no_word found word none some = let e : None ≡ Some word = sym none ∙ some in absurd cc

pub has_moment : (found : Option (List ℕ)) (digits : List ℕ) → found ≡ Some digits → IsSomeAnd found (λ word. digits_value 10 digits ≡ digits_value 10 word)
has_moment found digits some = subst (λ (found : Option (List ℕ)). IsSomeAnd found (λ word. digits_value 10 digits ≡ digits_value 10 word)) (sym some) refl

no_moment : (found : Option (List ℕ)) (n : ℕ) → found ≡ None → IsSomeAnd found (λ word. n ≡ digits_value 10 word) → ⊥
no_moment found n none some = subst (λ (found : Option (List ℕ)). IsSomeAnd found (λ word. n ≡ digits_value 10 word)) none some

-- a configuration and a moment
abbrev HasNeeded : List (Pair (List ℕ)) → List ℕ → ℕ → Type 0
HasNeeded options conf now =
    (value_of options (codes "--conf") ≡ Some conf) × IsSomeAnd (value_of options (codes "--now")) (λ digits. now ≡ digits_value 10 digits)

needed_or_none : (options : List (Pair (List ℕ))) → ((conf : List ℕ) × (now : ℕ) × HasNeeded options conf now) ⊎ ((conf : List ℕ) (now : ℕ) → HasNeeded options conf now → ⊥)
needed_or_none options = elim (has_word (value_of options (codes "--conf"))) [
  | inr none ↦ inr (λ conf now has. no_word _ conf none has.0)
  | inl conf ↦ elim (has_word (value_of options (codes "--now"))) [
    | inr none ↦ inr (λ conf now has. no_moment _ now none has.1)
    | inl now ↦ inl (conf.0, digits_value 10 now.0, (conf.1, has_moment _ now.0 now.1))
  ]
]

-- ---- `base`

pub base_of : (words : List (List ℕ)) → (words ≡ codes "--help" ∷ [] → ⊥) → SomeOrNone (SpellsBase (codes "base" ∷ words))
base_of [] asks = inr (λ base is. let e : [] ≡ base.params ∷ is.words = (first_is (codes "base") (codes "base") [] (base.params ∷ is.words) is.joined).1 in absurd cc)
base_of (params ∷ words) asks = with_or_none (SpellsBase (codes "base" ∷ params ∷ words)) name.Base words
    (λ base is.
    let others = (first_is (codes "base") (codes "base") (params ∷ words) (base.params ∷ is.words) is.joined).1 in
    let same = (first_is params base.params words is.words others).1 in
    (is.options, subst (λ (all : List (List ℕ)). AreOptions name.Base all is.options) (sym same) is.are))
    (λ options are. inl (
      record { params = params; conf = value_of options (codes "--conf"); request = value_of options (codes "--request") },
      record { words = words; options = options; joined = refl; asks = asks; are = are; conf_is = refl; request_is = refl },
    ))

-- ---- `verify`

verify_are : (words : List (List ℕ)) (verify : VerifyWords) (is : SpellsVerify (codes "verify" ∷ words) verify) → AreOptions name.Verify words is.options
verify_are words verify is = are_of name.Verify (codes "verify") words is.words is.options is.joined is.are

verify_with : (words : List (List ℕ)) (options : List (Pair (List ℕ))) → AreOptions name.Verify words options → SomeOrNone (SpellsVerify (codes "verify" ∷ words))
verify_with words options are = elim (needed_or_none options) [
  | inr none ↦ inr (λ verify is.
      let same = same_options name.Verify words options is.options are (verify_are words verify is) in
      none verify.conf verify.now (subst (λ (all : List (Pair (List ℕ))). HasNeeded all verify.conf verify.now) same (is.conf_is, is.now_is)))
  | inl some ↦ inl (
    record { conf = some.0; now = some.1; label = value_of options (codes "--label"); request = value_of options (codes "--request") },
    record {
      words = words;
      options = options;
      joined = refl;
      are = are;
      conf_is = some.2.0;
      now_is = some.2.1;
      label_is = refl;
      request_is = refl;
    },
  )
]

pub verify_of : (words : List (List ℕ)) → SomeOrNone (SpellsVerify (codes "verify" ∷ words))
verify_of words =
    with_or_none (SpellsVerify (codes "verify" ∷ words)) name.Verify words (λ verify is. (is.options, verify_are words verify is)) (verify_with words)

-- ---- `sign`

abbrev IsAlone : List (Pair (List ℕ)) → Type 0
IsAlone options = (value_of options (codes "--nonce") ≡ None) ⊎ (value_of options (codes "--wanted") ≡ None)

alone_or_not : (nonce wanted : Option (List ℕ)) → ((nonce ≡ None) ⊎ (wanted ≡ None)) ⊎ ((nonce ≡ None) ⊎ (wanted ≡ None) → ⊥)
alone_or_not None wanted = inl (inl refl)
alone_or_not (Some nonce) None = inl (inr refl)
alone_or_not (Some nonce) (Some wanted) = inr (λ alone. elim alone [
  | inl none ↦ no_word (Some nonce) nonce none refl
  | inr none ↦ no_word (Some wanted) wanted none refl
])

sign_is_alone : (arguments : List (List ℕ)) (sign : SignWords) (is : SpellsSign arguments sign) → IsAlone is.options
sign_is_alone arguments sign is = elim is.alone [
  | inl none ↦ inl (sym is.nonce_is ∙ none)
  | inr none ↦ inr (sym is.wanted_is ∙ none)
]

sign_are : (words : List (List ℕ)) (sign : SignWords) (is : SpellsSign (codes "sign" ∷ words) sign) → AreOptions name.Sign words is.options
sign_are words sign is = are_of name.Sign (codes "sign") words is.words is.options is.joined is.are

sign_with : (words : List (List ℕ)) (options : List (Pair (List ℕ))) → AreOptions name.Sign words options → SomeOrNone (SpellsSign (codes "sign" ∷ words))
sign_with words options are = elim (needed_or_none options) [
  | inr none ↦ inr (λ sign is.
      none sign.conf sign.now (subst (λ (all : List (Pair (List ℕ))). HasNeeded all sign.conf sign.now) (same sign is) (is.conf_is, is.now_is)))
  | inl some ↦ elim (alone_or_not (value_of options (codes "--nonce")) (value_of options (codes "--wanted"))) [
    | inr both ↦ inr (λ sign is. both (subst (λ (all : List (Pair (List ℕ))). IsAlone all) (same sign is) (sign_is_alone (codes "sign" ∷ words) sign is)))
    | inl alone ↦ inl (
      record {
        conf = some.0;
        now = some.1;
        request = value_of options (codes "--request");
        nonce = value_of options (codes "--nonce");
        wanted = value_of options (codes "--wanted");
      },
      record {
        words = words;
        options = options;
        joined = refl;
        are = are;
        conf_is = some.2.0;
        now_is = some.2.1;
        request_is = refl;
        nonce_is = refl;
        wanted_is = refl;
        alone = alone;
      },
    )
  ]
]
  where
    same : (sign : SignWords) (is : SpellsSign (codes "sign" ∷ words) sign) → is.options ≡ options
    same sign is = same_options name.Sign words options is.options are (sign_are words sign is)

pub sign_of : (words : List (List ℕ)) → SomeOrNone (SpellsSign (codes "sign" ∷ words))
sign_of words = with_or_none (SpellsSign (codes "sign" ∷ words)) name.Sign words (λ sign is. (is.options, sign_are words sign is)) (sign_with words)

-- ---- `rewrite`

rewrite_are : (words : List (List ℕ)) (rewrite : RewriteWords) (is : SpellsRewrite (codes "rewrite" ∷ words) rewrite) → AreOptions name.Rewrite words is.options
rewrite_are words rewrite is = are_of name.Rewrite (codes "rewrite") words is.words is.options is.joined is.are

rewrite_with : (words : List (List ℕ)) (options : List (Pair (List ℕ))) → AreOptions name.Rewrite words options → SomeOrNone (SpellsRewrite (codes "rewrite" ∷ words))
rewrite_with words options are = elim (has_word (value_of options (codes "--script"))) [
  | inr none ↦ inr (λ rewrite is.
      let same = same_options name.Rewrite words options is.options are (rewrite_are words rewrite is) in
      no_word (value_of options (codes "--script")) rewrite.script none
      (subst (λ (all : List (Pair (List ℕ))). value_of all (codes "--script") ≡ Some rewrite.script) same is.script_is))
  | inl script ↦ inl (
    record {
      script = script.0;
      conf = value_of options (codes "--conf");
      label = value_of options (codes "--label");
      request = value_of options (codes "--request");
    },
    record {
      words = words;
      options = options;
      joined = refl;
      are = are;
      script_is = script.1;
      conf_is = refl;
      label_is = refl;
      request_is = refl;
    },
  )
]

pub rewrite_of : (words : List (List ℕ)) → SomeOrNone (SpellsRewrite (codes "rewrite" ∷ words))
rewrite_of words =
    with_or_none (SpellsRewrite (codes "rewrite" ∷ words)) name.Rewrite words (λ rewrite is. (is.options, rewrite_are words rewrite is)) (rewrite_with words)

-- ---- `explain`

explain_are : (words : List (List ℕ)) (explain : ExplainWords) (is : SpellsExplain (codes "explain" ∷ words) explain) → AreOptions name.Explain words is.options
explain_are words explain is = are_of name.Explain (codes "explain") words is.words is.options is.joined is.are

explain_with : (words : List (List ℕ)) (options : List (Pair (List ℕ))) → AreOptions name.Explain words options → SomeOrNone (SpellsExplain (codes "explain" ∷ words))
explain_with words options are = elim (has_word (value_of options (codes "--label"))) [
  | inr none ↦ inr (λ explain is.
      let same = same_options name.Explain words options is.options are (explain_are words explain is) in
      no_word (value_of options (codes "--label")) explain.label none
      (subst (λ (all : List (Pair (List ℕ))). value_of all (codes "--label") ≡ Some explain.label) same is.label_is))
  | inl label ↦ elim (has_word (value_of options (codes "--other"))) [
    | inr none ↦ inr (λ explain is.
        let same = same_options name.Explain words options is.options are (explain_are words explain is) in
        no_word (value_of options (codes "--other")) explain.other none
        (subst (λ (all : List (Pair (List ℕ))). value_of all (codes "--other") ≡ Some explain.other) same is.other_is))
    | inl other ↦ inl (
      record {
        label = label.0;
        other = other.0;
        conf = value_of options (codes "--conf");
        request = value_of options (codes "--request");
      },
      record {
        words = words;
        options = options;
        joined = refl;
        are = are;
        label_is = label.1;
        other_is = other.1;
        conf_is = refl;
        request_is = refl;
      },
    )
  ]
]

pub explain_of : (words : List (List ℕ)) → SomeOrNone (SpellsExplain (codes "explain" ∷ words))
explain_of words =
    with_or_none (SpellsExplain (codes "explain" ∷ words)) name.Explain words (λ explain is. (is.options, explain_are words explain is)) (explain_with words)

-- ---- `audit`

audit_are : (words : List (List ℕ)) (audit : AuditWords) (is : SpellsAudit (codes "audit" ∷ words) audit) → AreOptions name.Audit words is.options
audit_are words audit is = are_of name.Audit (codes "audit") words is.words is.options is.joined is.are

audit_with : (words : List (List ℕ)) (options : List (Pair (List ℕ))) → AreOptions name.Audit words options → SomeOrNone (SpellsAudit (codes "audit" ∷ words))
audit_with words options are = elim (has_word (value_of options (codes "--conf"))) [
  | inr none ↦ inr (λ audit is.
      let same = same_options name.Audit words options is.options are (audit_are words audit is) in
      no_word (value_of options (codes "--conf")) audit.conf none
      (subst (λ (all : List (Pair (List ℕ))). value_of all (codes "--conf") ≡ Some audit.conf) same is.conf_is))
  | inl conf ↦ inl (
    record { conf = conf.0 },
    record { words = words; options = options; joined = refl; are = are; conf_is = conf.1 },
  )
]

pub audit_of : (words : List (List ℕ)) → SomeOrNone (SpellsAudit (codes "audit" ∷ words))
audit_of words = with_or_none (SpellsAudit (codes "audit" ∷ words)) name.Audit words (λ audit is. (is.options, audit_are words audit is)) (audit_with words)

-- ---- `gateway`

gateway_are : (words : List (List ℕ)) (gateway : GatewayWords) (is : SpellsGateway (codes "gateway" ∷ words) gateway) → AreOptions name.Gateway words is.options
gateway_are words gateway is = are_of name.Gateway (codes "gateway") words is.words is.options is.joined is.are

gateway_with : (words : List (List ℕ)) (options : List (Pair (List ℕ))) → AreOptions name.Gateway words options → SomeOrNone (SpellsGateway (codes "gateway" ∷ words))
gateway_with words options are = elim (has_word (value_of options (codes "--conf"))) [
  | inr none ↦ inr (λ gateway is.
      let same = same_options name.Gateway words options is.options are (gateway_are words gateway is) in
      no_word (value_of options (codes "--conf")) gateway.conf none
      (subst (λ (all : List (Pair (List ℕ))). value_of all (codes "--conf") ≡ Some gateway.conf) same is.conf_is))
  | inl conf ↦ inl (
    record { conf = conf.0 },
    record { words = words; options = options; joined = refl; are = are; conf_is = conf.1 },
  )
]

pub gateway_of : (words : List (List ℕ)) → SomeOrNone (SpellsGateway (codes "gateway" ∷ words))
gateway_of words = with_or_none (SpellsGateway (codes "gateway" ∷ words)) name.Gateway words (λ gateway is. (is.options, gateway_are words gateway is)) (gateway_with words)

-- ---- `lists`

into_of : (word : List ℕ) → is_into word ≡ true → (into_message : Bool) × (word ≡ into_word into_message)
into_of word is = elim (cases_Bool (bytes_eq word (codes "message"))) [
  | inl message ↦ (true, (bytes_eq-Decides word (codes "message")).0 message)
  | inr other ↦ (false, (bytes_eq-Decides word (codes "fields")).0 (rw other at is))
]

-- which of the two it is
pub into_is : (word : List ℕ) → is_into word ≡ true → word ≡ into_word (bytes_eq word (codes "message"))
into_is word is = elim (cases_Bool (bytes_eq word (codes "message"))) [
  | inl message ↦ rw message ((bytes_eq-Decides word (codes "message")).0 message)
  | inr other ↦ rw other ((bytes_eq-Decides word (codes "fields")).0 (rw other at is))
]

-- the word of `--into` is one of its two
pub into_given : (options : List (Pair (List ℕ))) (word : List ℕ) → list_all (λ p. may_have p.key p.value) options ≡ true
    → value_of options (codes "--into") ≡ Some word → (into_message : Bool) × (value_of options (codes "--into") ≡ Some (into_word into_message))
into_given options word had some =
    let into = into_of word (value_had (codes "--into") word options had some) in (into.0, some ∙ ap Some into.1)

lists_are : (words : List (List ℕ)) (lists : ListsWords) (is : SpellsLists (codes "lists" ∷ words) lists) → AreOptions name.Lists words is.options
lists_are words lists is = are_of name.Lists (codes "lists") words is.words is.options is.joined is.are

lists_with : (words : List (List ℕ)) (options : List (Pair (List ℕ))) → AreOptions name.Lists words options → SomeOrNone (SpellsLists (codes "lists" ∷ words))
lists_with words options are = elim (has_word (value_of options (codes "--into"))) [
  | inr none ↦ inr (λ lists is.
      let same = same_options name.Lists words options is.options are (lists_are words lists is) in
      no_word (value_of options (codes "--into")) (into_word lists.into_message) none
      (subst (λ (all : List (Pair (List ℕ))). value_of all (codes "--into") ≡ Some (into_word lists.into_message)) same is.into_is))
  | inl word ↦
      let into = into_given options word.0 are.had word.1 in inl (
        record { into_message = into.0; conf = value_of options (codes "--conf") },
        record { words = words; options = options; joined = refl; are = are; into_is = into.1; conf_is = refl },
      )
]

pub lists_of : (words : List (List ℕ)) → SomeOrNone (SpellsLists (codes "lists" ∷ words))
lists_of words = with_or_none (SpellsLists (codes "lists" ∷ words)) name.Lists words (λ lists is. (is.options, lists_are words lists is)) (lists_with words)

-- ---- `negotiate`

negotiate_are : (words : List (List ℕ)) (negotiate : NegotiateWords) (is : SpellsNegotiate (codes "negotiate" ∷ words) negotiate) → AreOptions name.Negotiate words is.options
negotiate_are words negotiate is = are_of name.Negotiate (codes "negotiate") words is.words is.options is.joined is.are

negotiate_with : (words : List (List ℕ)) (options : List (Pair (List ℕ))) → AreOptions name.Negotiate words options → SomeOrNone (SpellsNegotiate (codes "negotiate" ∷ words))
negotiate_with words options are = elim (needed_or_none options) [
  | inr none ↦ inr (λ negotiate is.
      let same = same_options name.Negotiate words options is.options are (negotiate_are words negotiate is) in
      none negotiate.conf negotiate.now (subst (λ (all : List (Pair (List ℕ))). HasNeeded all negotiate.conf negotiate.now) same (is.conf_is, is.now_is)))
  | inl some ↦ elim (has_word (value_of options (codes "--request"))) [
    | inr none ↦ inr (λ negotiate is.
        let same = same_options name.Negotiate words options is.options are (negotiate_are words negotiate is) in
        no_word (value_of options (codes "--request")) negotiate.request none
        (subst (λ (all : List (Pair (List ℕ))). value_of all (codes "--request") ≡ Some negotiate.request) same is.request_is))
    | inl request ↦ inl (
      record { conf = some.0; now = some.1; request = request.0 },
      record {
        words = words;
        options = options;
        joined = refl;
        are = are;
        conf_is = some.2.0;
        now_is = some.2.1;
        request_is = request.1;
      },
    )
  ]
]

pub negotiate_of : (words : List (List ℕ)) → SomeOrNone (SpellsNegotiate (codes "negotiate" ∷ words))
negotiate_of words =
    with_or_none (SpellsNegotiate (codes "negotiate" ∷ words)) name.Negotiate words (λ negotiate is. (is.options, negotiate_are words negotiate is)) (negotiate_with words)

-- ---- `sample`

seed_or_none : (word : List ℕ) → SomeOrNone (IsSeed word)
seed_or_none word = elim (cases_Bool (is_number 9 word)) [
  | inl is ↦ inl (digits_value 10 word, (is, refl))
  | inr not ↦ inr (λ seed is. false≢true (sym not ∙ is.0))
]

few_or_not : (n most : ℕ) → (n ≤ most) ⊎ (n ≤ most → ⊥)
few_or_not n most = elim (cases_Bool (nat_le n most)) [
  | inl is ↦ inl (grind (arith, nat_tests))
  | inr not ↦ inr (λ few. let is : nat_le n most ≡ true = grind (arith, nat_tests) in false≢true (sym not ∙ is))
]

count_or_none : (word : List ℕ) → SomeOrNone (IsCount word)
count_or_none word = elim (cases_Bool (is_number 2 word)) [
  | inr not ↦ inr (λ count is. false≢true (sym not ∙ is.0))
  | inl is ↦ elim (few_or_not (digits_value 10 word) 64) [
    | inl few ↦ inl (digits_value 10 word, (is, refl, few))
    | inr many ↦ inr (λ count counted. many (subst (λ (n : ℕ). n ≤ 64) counted.1 counted.2))
  ]
]

sample_words : (words : List (List ℕ)) (sample : SampleWords) (is : SpellsSample (codes "sample" ∷ words) sample) → words ≡ is.seed ∷ is.count ∷ []
sample_words words sample is = (first_is (codes "sample") (codes "sample") words (is.seed ∷ is.count ∷ []) is.joined).1

sample_with : (seed count : List ℕ) → SomeOrNone (SpellsSample (codes "sample" ∷ seed ∷ count ∷ []))
sample_with seed count = elim (seed_or_none seed) [
  | inr none ↦ inr (λ sample is.
      let same : seed ≡ is.seed = (first_is seed is.seed (count ∷ []) (is.count ∷ []) (sample_words (seed ∷ count ∷ []) sample is)).0 in
      none sample.seed (subst (λ (word : List ℕ). IsSeed word sample.seed) (sym same) is.seed_is))
  | inl some ↦ elim (count_or_none count) [
    | inr none ↦ inr (λ sample is.
        let others : count ∷ [] ≡ is.count ∷ [] = (first_is seed is.seed (count ∷ []) (is.count ∷ []) (sample_words (seed ∷ count ∷ []) sample is)).1 in
        let same : count ≡ is.count = (first_is count is.count [] [] others).0 in
        none sample.count (subst (λ (word : List ℕ). IsCount word sample.count) (sym same) is.count_is))
    | inl also ↦ inl (
      record { seed = some.0; count = also.0 },
      record { seed = seed; count = count; joined = refl; seed_is = some.1; count_is = also.1 },
    )
  ]
]

pub sample_of : (words : List (List ℕ)) → SomeOrNone (SpellsSample (codes "sample" ∷ words))
sample_of [] = inr (λ sample is. let e : [] ≡ is.seed ∷ is.count ∷ [] = sample_words [] sample is in absurd cc)
sample_of (seed ∷ []) = inr (λ sample is. let e : seed ∷ [] ≡ is.seed ∷ is.count ∷ [] = sample_words (seed ∷ []) sample is in absurd cc)
sample_of (seed ∷ count ∷ []) = sample_with seed count
sample_of (seed ∷ count ∷ word ∷ more) = inr (λ sample is.
    let e : seed ∷ count ∷ word ∷ more ≡ is.seed ∷ is.count ∷ [] = sample_words (seed ∷ count ∷ word ∷ more) sample is in absurd cc)
