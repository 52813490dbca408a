-- Arguments spell some command or none.
use Rattle.std.proofs.Common.{◌≡◌, ◌⊎◌, ℕ, Bool, true, false, List, [], ◌∷◌, Option, Some, None, inl, inr, refl, sym, ap, subst, ◌∙◌}
use Rattle.std.specs.Prelude.{codes}
use Rattle.std.specs.List.{find}
use Rattle.std.specs.Str.{bytes_eq}
use Rattle.std.proofs.lemmas.Bool.{cases_Bool, false≢true}
use Rattle.std.proofs.lemmas.Slice.Eq.{bytes_eq-Decides}
use Rattle.command_line.specs.Command.{CommandLine, Help, HelpOf, Version, Base, Verify, Sign, Rewrite, Explain, Audit, Gateway, Lists, Negotiate, Sample, IsCommand, NoCommand}
use Rattle.command_line.specs.Laws.{HasCommandOrNone}
use Rattle.command_options.specs.Names.{command_of, command_word}
use Rattle.command_options.specs.declared.options.CommandName.{CommandName}
use Rattle.command_options.specs.declared.options.CommandName.TheVariants as name
use Rattle.command_line.specs.tools.Wrong.{asks_help}
use Rattle.command_line.proofs.CommandOrNone.{first_is, base_of, verify_of, sign_of, rewrite_of, explain_of, audit_of, gateway_of, lists_of, negotiate_of, sample_of}
use Rattle.command_line.proofs.FirstWords.{asked, command_is, help_asked, no_base, no_verify, no_sign, no_rewrite, no_explain, no_audit, no_gateway, no_lists, no_negotiate, no_sample, unnamed}

abbrev SomeCommand : List (List ℕ) → Type 0
SomeCommand arguments = ((command : CommandLine) × IsCommand arguments command) ⊎ NoCommand arguments

no_words : (command : CommandLine) → IsCommand [] command → ⊥
no_words Help is = elim is [ inl e ↦ cc | inr e ↦ cc ]
no_words (HelpOf command) is = elim is [ inl e ↦ cc | inr e ↦ cc ]
no_words Version is = cc
no_words (Base words) is = cc is.joined
no_words (Verify words) is = cc is.joined
no_words (Sign words) is = cc is.joined
no_words (Rewrite words) is = cc is.joined
no_words (Explain words) is = cc is.joined
no_words (Audit words) is = cc is.joined
no_words (Gateway words) is = cc is.joined
no_words (Lists words) is = cc is.joined
no_words (Negotiate words) is = cc is.joined
no_words (Sample words) is = cc is.joined

plain : (command : CommandName) (words : List (List ℕ)) → asks_help words ≡ false → SomeCommand (command_word command ∷ words)
plain name.Base words isnt = elim (base_of words (asked words isnt)) [ inl some ↦ inl (Base some.0, some.1) | inr none ↦ inr (no_base words isnt none) ]
plain name.Verify words isnt = elim (verify_of words) [ inl some ↦ inl (Verify some.0, some.1) | inr none ↦ inr (no_verify words isnt none) ]
plain name.Sign words isnt = elim (sign_of words) [ inl some ↦ inl (Sign some.0, some.1) | inr none ↦ inr (no_sign words isnt none) ]
plain name.Rewrite words isnt = elim (rewrite_of words) [ inl some ↦ inl (Rewrite some.0, some.1) | inr none ↦ inr (no_rewrite words isnt none) ]
plain name.Explain words isnt = elim (explain_of words) [ inl some ↦ inl (Explain some.0, some.1) | inr none ↦ inr (no_explain words isnt none) ]
plain name.Audit words isnt = elim (audit_of words) [ inl some ↦ inl (Audit some.0, some.1) | inr none ↦ inr (no_audit words isnt none) ]
plain name.Gateway words isnt = elim (gateway_of words) [ inl some ↦ inl (Gateway some.0, some.1) | inr none ↦ inr (no_gateway words isnt none) ]
plain name.Lists words isnt = elim (lists_of words) [ inl some ↦ inl (Lists some.0, some.1) | inr none ↦ inr (no_lists words isnt none) ]
plain name.Negotiate words isnt = elim (negotiate_of words) [ inl some ↦ inl (Negotiate some.0, some.1) | inr none ↦ inr (no_negotiate words isnt none) ]
plain name.Sample words isnt = elim (sample_of words) [ inl some ↦ inl (Sample some.0, some.1) | inr none ↦ inr (no_sample words isnt none) ]

after_command : (command : CommandName) (words : List (List ℕ)) → SomeCommand (command_word command ∷ words)
after_command command words = elim (cases_Bool (asks_help words)) [
  | inl asks ↦ inl (HelpOf command, help_asked command words asks)
  | inr isnt ↦ plain command words isnt
]

-- a name is that of its command
first_holds : (test : CommandName → Bool) (commands : List CommandName) (command : CommandName) → find test commands ≡ Some command → test command ≡ true
first_holds test [] command e = absurd cc
first_holds test (first ∷ others) command e = elim (cases_Bool (test first)) [
  | inl holds ↦
      let same : Some first ≡ Some command = rw holds at e in
      let first_is : first ≡ command = cc in
      subst (λ (c : CommandName). test c ≡ true) first_is holds
  | inr other ↦ first_holds test others command (rw other at e)
]

pub name_is : (word : List ℕ) (command : CommandName) → command_of word ≡ Some command → word ≡ command_word command
name_is word command some =
    (bytes_eq-Decides word (command_word command)).0 (first_holds (λ c. bytes_eq word (command_word c))
    (name.Base ∷ name.Verify ∷ name.Sign ∷ name.Rewrite ∷ name.Explain ∷ name.Audit ∷ name.Gateway ∷ name.Lists ∷ name.Negotiate ∷ name.Sample ∷ []) command some)

-- ---- after `help`

pub help_alone : (words : List (List ℕ)) → words ≡ [] → IsCommand (codes "help" ∷ words) Help
help_alone words none = inr (ap (λ (all : List (List ℕ)). codes "help" ∷ all) none)

pub help_of : (words : List (List ℕ)) (word : List ℕ) (others : List (List ℕ)) (command : CommandName) → words ≡ word ∷ others → others ≡ []
    → command_of word ≡ Some command → IsCommand (codes "help" ∷ words) (HelpOf command)
help_of words word others command joined none some =
    inr (ap (λ (all : List (List ℕ)). codes "help" ∷ all) (joined ∙ (ap (λ (all : List (List ℕ)). word ∷ all) none ∙ ap (λ (w : List ℕ). w ∷ []) (name_is word command some))))

pub no_topic : (words : List (List ℕ)) (word : List ℕ) (others : List (List ℕ)) → words ≡ word ∷ others → command_of word ≡ None → NoCommand (codes "help" ∷ words)
no_topic words word others joined none line is = elim (unnamed (codes "help") words line is refl) [
  | inl text ↦ elim text.0 [ inl e ↦ false≢true ((bytes_eq-Decides (codes "help") (codes "--help")).1 e) | inr e ↦ false≢true ((bytes_eq-Decides (codes "help") (codes "--version")).1 e) ]
  | inr help ↦ elim help.1 [
    | inl empty ↦ no_cons word others (sym joined ∙ empty)
    | inr some ↦ not_none some.0 (sym none ∙ (ap command_of (first_is word (command_word some.0) others [] (sym joined ∙ some.1)).0 ∙ command_is some.0))
  ]
]
  where
    no_cons : (word : List ℕ) (others : List (List ℕ)) → word ∷ others ≡ [] → ⊥
    no_cons word others e = absurd cc

    not_none : (command : CommandName) → None ≡ Some command → ⊥
    not_none command e = absurd cc

pub topic_and_more : (words : List (List ℕ)) (word other : List ℕ) (others after : List (List ℕ)) → words ≡ word ∷ others → others ≡ other ∷ after
    → NoCommand (codes "help" ∷ words)
topic_and_more words word other others after joined more line is = elim (unnamed (codes "help") words line is refl) [
  | inl text ↦ elim text.0 [ inl e ↦ false≢true ((bytes_eq-Decides (codes "help") (codes "--help")).1 e) | inr e ↦ false≢true ((bytes_eq-Decides (codes "help") (codes "--version")).1 e) ]
  | inr help ↦ elim help.1 [
    | inl empty ↦ no_cons word others (sym joined ∙ empty)
    | inr some ↦ no_cons other after (sym more ∙ (first_is word (command_word some.0) others [] (sym joined ∙ some.1)).1)
  ]
]
  where
    no_cons : (word : List ℕ) (others : List (List ℕ)) → word ∷ others ≡ [] → ⊥
    no_cons word others e = absurd cc

-- ---- another first word

pub no_other : (word : List ℕ) (words : List (List ℕ)) → command_of word ≡ None → bytes_eq word (codes "--help") ≡ false → bytes_eq word (codes "--version") ≡ false
    → bytes_eq word (codes "help") ≡ false → NoCommand (word ∷ words)
no_other word words none a b c line is = elim (unnamed word words line is none) [
  | inl text ↦ elim text.0 [
    | inl e ↦ false≢true (sym a ∙ (bytes_eq-Decides word (codes "--help")).1 e)
    | inr e ↦ false≢true (sym b ∙ (bytes_eq-Decides word (codes "--version")).1 e)
  ]
  | inr help ↦ false≢true (sym c ∙ (bytes_eq-Decides word (codes "help")).1 help.0)
]

after_text : (word : List ℕ) (words : List (List ℕ)) (line : CommandLine) → command_of word ≡ None → bytes_eq word (codes "help") ≡ false
    → (words ≡ [] → IsCommand (word ∷ words) line) → SomeCommand (word ∷ words)
after_text word [] line none other text = inl (line, text refl)
after_text word (next ∷ words) line none other text = inr (λ line is. elim (unnamed word (next ∷ words) line is none) [
  | inl text ↦ no_cons text.1
  | inr help ↦ false≢true (sym other ∙ (bytes_eq-Decides word (codes "help")).1 help.0)
])
  where
    no_cons : next ∷ words ≡ [] → ⊥
    no_cons e = absurd cc

after_help : (words : List (List ℕ)) → SomeCommand (codes "help" ∷ words)
after_help [] = inl (Help, inr refl)
after_help (word ∷ []) = by_name (command_of word) refl
  where
    by_name : (found : Option CommandName) → command_of word ≡ found → SomeCommand (codes "help" ∷ word ∷ [])
    by_name None e = inr (no_topic (word ∷ []) word [] refl e)
    by_name (Some command) e = inl (HelpOf command, help_of (word ∷ []) word [] command refl refl e)
after_help (word ∷ next ∷ words) = inr (topic_and_more (word ∷ next ∷ words) word next (next ∷ words) words refl refl)

after_other : (word : List ℕ) (words : List (List ℕ)) → command_of word ≡ None → SomeCommand (word ∷ words)
after_other word words none = elim (cases_Bool (bytes_eq word (codes "help"))) [
  | inl help ↦ subst (λ (w : List ℕ). SomeCommand (w ∷ words)) (sym ((bytes_eq-Decides word (codes "help")).0 help)) (after_help words)
  | inr c ↦ elim (cases_Bool (bytes_eq word (codes "--help"))) [
    | inl is ↦ after_text word words Help none c (λ e. let same = (bytes_eq-Decides word (codes "--help")).0 is in inl (λ i. same i ∷ e i))
    | inr a ↦ elim (cases_Bool (bytes_eq word (codes "--version"))) [
      | inl is ↦ after_text word words Version none c (λ e. let same = (bytes_eq-Decides word (codes "--version")).0 is in (λ i. same i ∷ e i))
      | inr b ↦ inr (no_other word words none a b c)
    ]
  ]
]

pub command_or_none : HasCommandOrNone
command_or_none [] = inr no_words
command_or_none (word ∷ words) = by_name (command_of word) refl
  where
    by_name : (found : Option CommandName) → command_of word ≡ found → SomeCommand (word ∷ words)
    by_name None e = after_other word words e
    by_name (Some command) e = subst (λ (w : List ℕ). SomeCommand (w ∷ words)) (sym (name_is word command e)) (after_command command words)
