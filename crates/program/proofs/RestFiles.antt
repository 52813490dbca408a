-- The files that are asked for after others, and the source that is read after them.
use Rattle.std.proofs.Common.{◌≡◌, ◌+◌, ◌++◌, ◌≤◌, ◌∙◌, arith, ℕ, List, [], ◌∷◌, Option, Result, refl, sym, ap, subst, length}
use Rattle.std.specs.Prelude.{is_some, option_map, sum_by}
use Rattle.std.specs.List.{filter}
use Rattle.std.proofs.lemmas.List.{length-append}
use Rattle.std.proofs.lemmas.List.Elements.{filter-append}
use Rattle.std.proofs.lemmas.List.Sums.{sum_by-append}
use Rattle.hms_io.specs.Files.{FileMap}
use Rattle.intake.specs.Files.{FileNames, FileRole, file_bytes, file_count, file_limit}
use Rattle.intake.specs.declared.stop.Stop.{Stop}
use Rattle.commands.specs.Outcome.{IfOutcome}
use Rattle.commands.specs.declared.outcome.Outcome.{Outcome}
use Rattle.program.specs.Intake.{named_count, read_order}
use Rattle.program.specs.tools.Parts.{Asks, AsksOne, AsksRest, AsksUntil, ReadsAtMost, named_bytes, roles_read}
use Rattle.program.proofs.AskedFiles.{late_asked, no_more}
use Rattle.program.proofs.Reports.{bytes_step, count_step, keeps_both, not_named, one_counted, weighed}
use Rattle.program.proofs.Sources.{none_gone}

-- a source that isn't read
pub unread : {S : Type 0} (left : S → Option (List ℕ)) (given ended idle faults : S → ℕ) (most : ℕ) (source : S) → ReadsAtMost left given ended idle faults most source source
unread left given ended idle faults most source = record {
  later = omega arith;
  few = none_gone most (left source) (left source) refl;
  gives = omega arith;
  ends = λ none. omega (arith, none);
  idles = omega arith;
}

-- ---- files of some roles, and of others

module _ (names : FileNames) where
  count_both : (xs ys : List FileRole) → named_count names (xs ++ ys) ≡ named_count names xs + named_count names ys
  count_both xs ys =
      ap length (filter-append (λ role. is_some (names role)) xs ys) ∙ length-append (filter (λ role. is_some (names role)) xs) (filter (λ role. is_some (names role)) ys)

  bytes_both : (xs ys : List FileRole) → named_bytes names (xs ++ ys) ≡ named_bytes names xs + named_bytes names ys
  bytes_both xs ys =
      ap (sum_by (λ role. file_limit role + 1)) (filter-append (λ role. is_some (names role)) xs ys)
      ∙ sum_by-append (λ role. file_limit role + 1) (filter (λ role. is_some (names role)) xs) (filter (λ role. is_some (names role)) ys)

  count_one : (role : FileRole) → named_count names (role ∷ []) ≡ weighed 1 (names role)
  count_one role = let one = count_step names role [] in omega (arith, one)

  bytes_one : (role : FileRole) → named_bytes names (role ∷ []) ≡ weighed (file_limit role + 1) (names role)
  bytes_one role = let one = bytes_step names role [] in omega (arith, one)

  count_total : (roles others : List FileRole) → roles ++ others ≡ read_order → named_count names roles ≤ file_count names
  count_total roles others all =
      let both = count_both roles others in
      let total : named_count names (roles ++ others) ≡ file_count names = ap (named_count names) all in
      omega (arith, both, total)

  bytes_total : (roles others : List FileRole) → roles ++ others ≡ read_order → named_bytes names roles ≤ file_bytes names
  bytes_total roles others all =
      let both = bytes_both roles others in
      let total : named_bytes names (roles ++ others) ≡ file_bytes names = ap (named_bytes names) all in
      omega (arith, both, total)

grown : (n more all own before middle weight : ℕ) → before ≤ n + more → middle ≤ before + weight → all ≡ more + own → own ≡ weight → middle ≤ n + all
grown n more all own before middle weight had one both same = omega (arith, had, one, both, same)

within : (n most all now : ℕ) → now ≤ n + most → most ≤ all → now ≤ n + all
within n most all now is total = omega (arith, is, total)

-- ---- the file of a role, and what comes after it

module _ {X S : Type 0} (files : S → Option FileMap) (asked reached : S → ℕ) (f : X → List ℕ) (names : FileNames) (roles : List FileRole) (role : FileRole) (name : Option X) (named : names role ≡ option_map f name)
    (before middle : S) (one : AsksOne files asked reached (file_limit role + 1) name before middle) where
  counted : (n : ℕ) → asked before ≤ n + named_count names roles → asked middle ≤ n + named_count names (roles ++ role ∷ [])
  counted n had =
      grown n (named_count names roles) (named_count names (roles ++ role ∷ [])) (named_count names (role ∷ [])) (asked before) (asked middle) (weighed 1 (names role)) had
      (subst (λ (o : Option (List ℕ)). asked middle ≤ asked before + weighed 1 o) (sym named) (one_counted asked f 1 name before middle one.unasked one.asks)) (count_both names roles (role ∷ [])) (count_one names role)

  measured : (n : ℕ) → reached before ≤ n + named_bytes names roles → reached middle ≤ n + named_bytes names (roles ++ role ∷ [])
  measured n had =
      grown n (named_bytes names roles) (named_bytes names (roles ++ role ∷ [])) (named_bytes names (role ∷ [])) (reached before) (reached middle) (weighed (file_limit role + 1) (names role)) had
      (subst (λ (o : Option (List ℕ)). reached middle ≤ reached before + weighed (file_limit role + 1) o) (sym named) (one_counted reached f (file_limit role + 1) name before middle one.unasked one.reaches))
      (bytes_both names roles (role ∷ [])) (bytes_one names role)

  -- it is read, and then the rest
  pub then_asked : (result : Result Outcome Stop) (now : S) → AsksRest files asked reached names (roles ++ role ∷ []) result middle now → AsksRest files asked reached names roles result before now
  then_asked result now rest = record {
    kept = keeps_both (files before) (files middle) (files now) one.keeps rest.kept;
    until = λ n had. rest.until n (counted n had);
    asks = λ n had. rest.asks n (counted n had);
    reaches = λ n had. rest.reaches n (measured n had);
    unasked = λ none. rest.unasked none ∙ not_named f name before middle (sym named ∙ none role) one.unasked;
  }

  -- it is refused, or the last one
  module _ (others : List FileRole) (all : (roles ++ role ∷ []) ++ others ≡ read_order) where
    pub ends_asked : (result : Result Outcome Stop) → ((n : ℕ) → asked middle ≤ n + named_count names (roles ++ role ∷ []) → AsksUntil names result n (asked middle)) → AsksRest files asked reached names roles result before middle
    ends_asked result until = record {
      kept = one.keeps;
      until = λ n had. until n (counted n had);
      asks = λ n had. within n (named_count names (roles ++ role ∷ [])) (file_count names) (asked middle) (counted n had) (count_total names (roles ++ role ∷ []) others all);
      reaches = λ n had. within n (named_bytes names (roles ++ role ∷ [])) (file_bytes names) (reached middle) (measured n had) (bytes_total names (roles ++ role ∷ []) others all);
      unasked = λ none. not_named f name before middle (sym named ∙ none role) one.unasked;
    }

    pub last_asked : (result : Result Outcome Stop) → IfOutcome result (λ outcome. roles_read outcome ≡ read_order) → AsksRest files asked reached names roles result before middle
    last_asked result late =
        ends_asked result (λ n had. late_asked names n (asked middle) (within n (named_count names (roles ++ role ∷ [])) (file_count names) (asked middle) had (count_total names (roles ++ role ∷ []) others all)) result late)

-- of all files
pub all_asked : {S : Type 0} (files : S → Option FileMap) (asked reached : S → ℕ) (names : FileNames) (result : Result Outcome Stop) (before now : S) → AsksRest files asked reached names [] result before now
    → Asks names (files before) (files now) (asked before) (asked now) (reached before) (reached now) (now ≡ before)
all_asked files asked reached names result before now rest = record {
  files = rest.kept;
  asks = rest.asks (asked before) (no_more (asked before));
  reaches = rest.reaches (reached before) (no_more (reached before));
  unasked = rest.unasked;
}

pub until_asked : {S : Type 0} (files : S → Option FileMap) (asked reached : S → ℕ) (names : FileNames) (result : Result Outcome Stop) (before now : S) → AsksRest files asked reached names [] result before now
    → AsksUntil names result (asked before) (asked now)
until_asked files asked reached names result before now rest = rest.until (asked before) (no_more (asked before))
