-- Why words without options are no command.
use Rattle.std.proofs.Common.{◌≡◌, ◌⊎◌, ℕ, Bool, true, false, ◌||◌, List, [], ◌∷◌, Some, None, inl, inr, refl, sym, ap, subst, ◌∙◌, lit≤}
use Rattle.std.specs.Prelude.{codes}
use Rattle.std.specs.List.{list_all}
use Rattle.std.specs.Str.{bytes_eq}
use Rattle.std.proofs.lemmas.Bool.{and_parts, false≢true}
use Rattle.std.proofs.lemmas.Slice.Eq.{bytes_eq-Decides}
use Rattle.sfv_text.specs.declared.pair.Pair.{Pair}
use Rattle.command_line.specs.Command.{CommandLine, Base, Help, HelpOf, Version, Sample, IsCommand}
use Rattle.command_line.specs.Faults.{BeginsCommand, IsWordsFault}
use Rattle.command_options.specs.Names.{command_of, command_word}
use Rattle.command_options.specs.Numbers.{IsCount, IsSeed}
use Rattle.command_options.specs.Options.{takes, words_of}
use Rattle.command_line.specs.declared.fault.WordsReason.TheVariants.{NoWords, NoCommand, LeftOver, NoParams, NoSeed, BadSeed, NoCount, BadCount}
use Rattle.command_options.specs.declared.options.CommandName.{CommandName}
use Rattle.command_options.specs.declared.options.CommandName.TheVariants as name
use Rattle.command_line.specs.tools.Wrong.{is_text_name, AreCommand}
use Rattle.command_line.proofs.CommandOrNone.{first_is}
use Rattle.command_line.proofs.FirstWords.{AfterName, IsNoHelp, IsOptionLine, command_is, named, no_help, unnamed}
use Rattle.command_line.proofs.OptionFaults.{parted_at, parted_end}
use Rattle.command_line.proofs.SomeCommand.{help_alone, help_of, no_topic, topic_and_more}

-- ---- no command

help_begins : BeginsCommand []
help_begins = (codes "--help" ∷ [], Help, inl refl)

pub no_words : (words : List (List ℕ)) → words ≡ [] → IsWordsFault words None NoWords words
no_words words none = subst (λ (all : List (List ℕ)). IsWordsFault all None NoWords all) (sym none)
    (record { before = []; separated = parted_end [] [] refl help_begins; is = (refl, refl); command_is = refl })

text_name : (word : List ℕ) → (word ≡ codes "--help") ⊎ (word ≡ codes "--version") → is_text_name word ≡ true
text_name word is = elim is [
  | inl help ↦ subst (λ (w : List ℕ). is_text_name w ≡ true) (sym help) refl
  | inr version ↦ subst (λ (w : List ℕ). is_text_name w ≡ true) (sym version) refl
]

pub no_command : (word : List ℕ) (words : List (List ℕ)) → command_of word ≡ None → bytes_eq word (codes "help") ≡ false → is_text_name word ≡ false
    → IsWordsFault (word ∷ words) None NoCommand (word ∷ words)
no_command word words none no_topic other = record {
  before = [];
  separated = parted_at (word ∷ words) [] word words refl help_begins
      (λ begun. elim (unnamed word begun.0 begun.1 begun.2 none) [
        | inl text ↦ false≢true (sym other ∙ text_name word text.0)
        | inr help ↦ false≢true (sym no_topic ∙ (bytes_eq-Decides word (codes "help")).1 help.0)
      ]);
  is = (inl refl, (word, record { after = words; joined = refl }, none));
  command_is = sym none;
}

text_of : (a b : Bool) → (a || b) ≡ true → (a ≡ true) ⊎ (b ≡ true)
text_of true b is = inl refl
text_of false b is = inr is

pub text_command : (word : List ℕ) → is_text_name word ≡ true → AreCommand (word ∷ [])
text_command word is = elim (text_of (bytes_eq word (codes "--help")) (bytes_eq word (codes "--version")) is) [
  | inl help ↦ (Help, inl (ap (λ (w : List ℕ). w ∷ []) ((bytes_eq-Decides word (codes "--help")).0 help)))
  | inr version ↦ (Version, ap (λ (w : List ℕ). w ∷ []) ((bytes_eq-Decides word (codes "--version")).0 version))
]

pub text_left_over : (word next : List ℕ) (after : List (List ℕ)) → command_of word ≡ None → bytes_eq word (codes "help") ≡ false → is_text_name word ≡ true
    → IsWordsFault (word ∷ next ∷ after) None LeftOver (next ∷ after)
text_left_over word next after none no_topic is =
    let line = text_command word is in
    record {
      before = word ∷ [];
      separated = parted_at (word ∷ next ∷ after) (word ∷ []) next after refl ([], line.0, line.1) (λ begun. elim (unnamed word (next ∷ begun.0) begun.1 begun.2 none) [
        | inl text ↦ longer begun.0 text.1
        | inr help ↦ false≢true (sym no_topic ∙ (bytes_eq-Decides word (codes "help")).1 help.0)
      ]);
      is = (next, record { after = after; joined = refl }, line.0, line.1);
      command_is = sym none;
    }
  where
    longer : (more : List (List ℕ)) → next ∷ more ≡ [] → ⊥
    longer more e = absurd cc

-- ---- `base` and `sample`

empty_first : [] ∷ [] ≡ codes "--help" ∷ [] → ⊥
empty_first e = false≢true ((bytes_eq-Decides [] (codes "--help")).1 (first_is [] (codes "--help") [] [] e).0)

base_begins : BeginsCommand (codes "base" ∷ [])
base_begins = (
  [] ∷ [],
  Base (record { params = []; conf = None; request = None }),
  record { words = []; options = []; joined = refl; asks = empty_first; are = record { joined = refl; distinct = refl; taken = refl; had = refl }; conf_is = refl; request_is = refl },
)

pub no_params : (words : List (List ℕ)) → words ≡ [] → IsWordsFault (codes "base" ∷ words) (Some name.Base) NoParams words
no_params words none = subst (λ (all : List (List ℕ)). IsWordsFault (codes "base" ∷ all) (Some name.Base) NoParams all) (sym none)
    (record { before = codes "base" ∷ []; separated = parted_end (codes "base" ∷ []) (codes "base" ∷ []) refl base_begins; is = (refl, refl); command_is = refl })

-- words after `sample` that aren't `--help` alone are no help
sample_plain : (words : List (List ℕ)) (line : CommandLine) → IsCommand (codes "sample" ∷ words) line → (words ≡ codes "--help" ∷ [] → ⊥) → IsNoHelp line
sample_plain words line is none = no_help (codes "sample") words line name.Sample is refl none

longer_than_one : (a b c : List ℕ) (more : List (List ℕ)) → a ∷ b ∷ more ≡ c ∷ [] → ⊥
longer_than_one a b c more e = absurd cc

zero_seed : IsSeed (codes "0") 0
zero_seed = (refl, refl)

zero_count : IsCount (codes "0") 0
zero_count = (refl, refl, lit≤ tt)

sample_line : (seed count : List ℕ) (s n : ℕ) → IsSeed seed s → IsCount count n → AreCommand (codes "sample" ∷ seed ∷ count ∷ [])
sample_line seed count s n is also =
    (Sample (record { seed = s; count = n }), record { seed = seed; count = count; joined = refl; seed_is = is; count_is = also })

sample_begins : BeginsCommand (codes "sample" ∷ [])
sample_begins = let line = sample_line (codes "0") (codes "0") 0 0 zero_seed zero_count in (codes "0" ∷ codes "0" ∷ [], line.0, line.1)

seed_begins : (seed : List ℕ) (s : ℕ) → IsSeed seed s → BeginsCommand (codes "sample" ∷ seed ∷ [])
seed_begins seed s is = let line = sample_line seed (codes "0") s 0 is zero_count in (codes "0" ∷ [], line.0, line.1)

pub no_seed : (words : List (List ℕ)) → words ≡ [] → IsWordsFault (codes "sample" ∷ words) (Some name.Sample) NoSeed words
no_seed words none = subst (λ (all : List (List ℕ)). IsWordsFault (codes "sample" ∷ all) (Some name.Sample) NoSeed all) (sym none)
    (record { before = codes "sample" ∷ []; separated = parted_end (codes "sample" ∷ []) (codes "sample" ∷ []) refl sample_begins; is = (refl, refl); command_is = refl })

pub bad_seed : (seed : List ℕ) (after : List (List ℕ)) → bytes_eq seed (codes "--help") ≡ false → ((n : ℕ) → IsSeed seed n → ⊥)
    → IsWordsFault (codes "sample" ∷ seed ∷ after) (Some name.Sample) BadSeed (seed ∷ after)
bad_seed seed after other bad = record {
  before = codes "sample" ∷ [];
  separated = parted_at (codes "sample" ∷ seed ∷ after) (codes "sample" ∷ []) seed after refl sample_begins none;
  is = (seed, refl, record { after = after; joined = refl }, bad);
  command_is = refl;
}
  where
    none : BeginsCommand (codes "sample" ∷ seed ∷ []) → ⊥
    none begun =
        let words = named (codes "sample") (seed ∷ begun.0) begun.1 name.Sample begun.2 refl
        (sample_plain (seed ∷ begun.0) begun.1 begun.2 (λ asks. false≢true (sym other ∙ (bytes_eq-Decides seed (codes "--help")).1 (first_is seed (codes "--help") begun.0 [] asks).0))) in
        let same : seed ≡ words.0 = (first_is seed words.0 begun.0 (words.1 ∷ []) words.2).0 in
        bad words.3.0 (subst (λ (word : List ℕ). IsSeed word words.3.0) (sym same) words.3.1)

pub no_count : (seed : List ℕ) (s : ℕ) (words : List (List ℕ)) → IsSeed seed s → words ≡ []
    → IsWordsFault (codes "sample" ∷ seed ∷ words) (Some name.Sample) NoCount words
no_count seed s words is none = subst (λ (all : List (List ℕ)). IsWordsFault (codes "sample" ∷ seed ∷ all) (Some name.Sample) NoCount all) (sym none) (record {
  before = codes "sample" ∷ seed ∷ [];
  separated = parted_end (codes "sample" ∷ seed ∷ []) (codes "sample" ∷ seed ∷ []) refl (seed_begins seed s is);
  is = (seed, (refl, refl));
  command_is = refl;
})

pub bad_count : (seed count : List ℕ) (s : ℕ) (after : List (List ℕ)) → IsSeed seed s → ((n : ℕ) → IsCount count n → ⊥)
    → IsWordsFault (codes "sample" ∷ seed ∷ count ∷ after) (Some name.Sample) BadCount (count ∷ after)
bad_count seed count s after is bad = record {
  before = codes "sample" ∷ seed ∷ [];
  separated = parted_at (codes "sample" ∷ seed ∷ count ∷ after) (codes "sample" ∷ seed ∷ []) count after refl (seed_begins seed s is) none;
  is = (seed, count, refl, record { after = after; joined = refl }, bad);
  command_is = refl;
}
  where
    none : BeginsCommand (codes "sample" ∷ seed ∷ count ∷ []) → ⊥
    none begun =
        let words = named (codes "sample") (seed ∷ count ∷ begun.0) begun.1 name.Sample begun.2 refl
        (sample_plain (seed ∷ count ∷ begun.0) begun.1 begun.2 (longer_than_one seed count (codes "--help") begun.0)) in
        let others = (first_is seed words.0 (count ∷ begun.0) (words.1 ∷ []) words.2).1 in
        let same : count ≡ words.1 = (first_is count words.1 begun.0 [] others).0 in
        bad words.4.0 (subst (λ (word : List ℕ). IsCount word words.4.0) (sym same) words.4.1)

pub sample_whole : (seed count : List ℕ) (s n : ℕ) → IsSeed seed s → IsCount count n → AreCommand (codes "sample" ∷ seed ∷ count ∷ [])
sample_whole seed count s n is also = sample_line seed count s n is also

pub sample_left_over : (seed count next : List ℕ) (s n : ℕ) (after : List (List ℕ)) → IsSeed seed s → IsCount count n
    → IsWordsFault (codes "sample" ∷ seed ∷ count ∷ next ∷ after) (Some name.Sample) LeftOver (next ∷ after)
sample_left_over seed count next s n after is also =
    let line = sample_line seed count s n is also in
    record {
      before = codes "sample" ∷ seed ∷ count ∷ [];
      separated = parted_at (codes "sample" ∷ seed ∷ count ∷ next ∷ after) (codes "sample" ∷ seed ∷ count ∷ []) next after refl ([], line.0, line.1) none;
      is = (next, record { after = after; joined = refl }, line.0, line.1);
      command_is = refl;
    }
  where
    none : BeginsCommand (codes "sample" ∷ seed ∷ count ∷ next ∷ []) → ⊥
    none begun =
        let words = named (codes "sample") (seed ∷ count ∷ next ∷ begun.0) begun.1 name.Sample begun.2 refl
        (sample_plain (seed ∷ count ∷ next ∷ begun.0) begun.1 begun.2 (longer_than_one seed count (codes "--help") (next ∷ begun.0))) in
        let others = (first_is seed words.0 (count ∷ next ∷ begun.0) (words.1 ∷ []) words.2).1 in
        let none : next ∷ begun.0 ≡ [] = (first_is count words.1 (next ∷ begun.0) [] others).1 in
        absurd cc

-- ---- help

pub help_command : (command : CommandName) → AreCommand (command_word command ∷ codes "--help" ∷ [])
help_command command = (HelpOf command, inl refl)

pub help_left_over : (command : CommandName) (next : List ℕ) (after : List (List ℕ)) → (command ≡ name.Base → ⊥)
    → IsWordsFault (command_word command ∷ codes "--help" ∷ next ∷ after) (Some command) LeftOver (next ∷ after)
help_left_over command next after other = record {
  before = command_word command ∷ codes "--help" ∷ [];
  separated = parted_at (command_word command ∷ codes "--help" ∷ next ∷ after) (command_word command ∷ codes "--help" ∷ []) next after refl ([], HelpOf command, inl refl) (λ begun. none command other begun);
  is = (next, record { after = after; joined = refl }, HelpOf command, inl refl);
  command_is = sym (command_is command);
}
  where
    none_taken : (command : CommandName) (more : List (List ℕ)) → takes command (codes "--help") ≡ false → IsOptionLine command (codes "--help" ∷ more) → ⊥
    none_taken command more isnt line = first_taken line.options line.are.joined line.are.taken
      where
        first_taken : (options : List (Pair (List ℕ))) → codes "--help" ∷ more ≡ words_of options → list_all (λ option. takes command option.key) options ≡ true → ⊥
        first_taken [] joined all = absurd cc
        first_taken (p ∷ options) joined all =
            let key : codes "--help" ≡ p.key = cc in
            false≢true (sym isnt ∙ (ap (λ (n : List ℕ). takes command n) key ∙ (and_parts (takes command p.key) (list_all (λ option. takes command option.key) options) all).0))

    line_of : (command : CommandName) (begun : BeginsCommand (command_word command ∷ codes "--help" ∷ next ∷ [])) → AfterName command (codes "--help" ∷ next ∷ begun.0)
    line_of command begun =
        named (command_word command) (codes "--help" ∷ next ∷ begun.0) begun.1 command begun.2 (command_is command)
        (no_help (command_word command) (codes "--help" ∷ next ∷ begun.0) begun.1 command begun.2 (command_is command) (longer_than_one (codes "--help") next (codes "--help") begun.0))

    none : (command : CommandName) → (command ≡ name.Base → ⊥) → BeginsCommand (command_word command ∷ codes "--help" ∷ next ∷ []) → ⊥
    none name.Base other begun = other refl
    none name.Verify other begun = none_taken name.Verify (next ∷ begun.0) refl (line_of name.Verify begun)
    none name.Sign other begun = none_taken name.Sign (next ∷ begun.0) refl (line_of name.Sign begun)
    none name.Rewrite other begun = none_taken name.Rewrite (next ∷ begun.0) refl (line_of name.Rewrite begun)
    none name.Explain other begun = none_taken name.Explain (next ∷ begun.0) refl (line_of name.Explain begun)
    none name.Audit other begun = none_taken name.Audit (next ∷ begun.0) refl (line_of name.Audit begun)
    none name.Gateway other begun = none_taken name.Gateway (next ∷ begun.0) refl (line_of name.Gateway begun)
    none name.Lists other begun = none_taken name.Lists (next ∷ begun.0) refl (line_of name.Lists begun)
    none name.Negotiate other begun = none_taken name.Negotiate (next ∷ begun.0) refl (line_of name.Negotiate begun)
    none name.Sample other begun =
        let words = line_of name.Sample begun in
        let same : codes "--help" ≡ words.0 = (first_is (codes "--help") words.0 (next ∷ begun.0) (words.1 ∷ []) words.2).0 in
        let is = subst (λ (word : List ℕ). IsSeed word words.3.0) (sym same) words.3.1 in
        false≢true is.0

topic_begins : BeginsCommand (codes "help" ∷ [])
topic_begins = ([], Help, inr refl)

pub topic_alone : (words : List (List ℕ)) → words ≡ [] → AreCommand (codes "help" ∷ words)
topic_alone words none = (Help, help_alone words none)

pub topic_whole : (words : List (List ℕ)) (word : List ℕ) (others : List (List ℕ)) (command : CommandName) → words ≡ word ∷ others → others ≡ []
    → command_of word ≡ Some command → AreCommand (codes "help" ∷ words)
topic_whole words word others command joined none some = (HelpOf command, help_of words word others command joined none some)

pub bad_topic : (word : List ℕ) (others : List (List ℕ)) → command_of word ≡ None → IsWordsFault (codes "help" ∷ word ∷ others) None NoCommand (word ∷ others)
bad_topic word others none = record {
  before = codes "help" ∷ [];
  separated = parted_at (codes "help" ∷ word ∷ others) (codes "help" ∷ []) word others refl topic_begins
      (λ begun. no_topic (word ∷ begun.0) word begun.0 refl none begun.1 begun.2);
  is = (inr refl, (word, record { after = others; joined = refl }, none));
  command_is = refl;
}

pub topic_left_over : (word next : List ℕ) (after : List (List ℕ)) (command : CommandName) → command_of word ≡ Some command
    → IsWordsFault (codes "help" ∷ word ∷ next ∷ after) None LeftOver (next ∷ after)
topic_left_over word next after command some =
    let is = help_of (word ∷ []) word [] command refl refl some in
    record {
      before = codes "help" ∷ word ∷ [];
      separated = parted_at (codes "help" ∷ word ∷ next ∷ after) (codes "help" ∷ word ∷ []) next after refl ([], HelpOf command, is)
          (λ begun. topic_and_more (word ∷ next ∷ begun.0) word next (next ∷ begun.0) begun.0 refl refl begun.1 begun.2);
      is = (next, record { after = after; joined = refl }, HelpOf command, is);
      command_is = refl;
    }
