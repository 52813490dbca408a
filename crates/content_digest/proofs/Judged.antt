-- What is answered, from what the parts answer.
use Rattle.std.proofs.Common.{◌≡◌, ◌≢◌, ◌⊎◌, ℕ, true, Result, Ok, Err, List, refl, sym, ap, subst, ◌∙◌, inl, inr}
use Rattle.std.specs.Prelude.{⊤, IfErr, IfOk, IsTrue}
use Rattle.std.proofs.lemmas.Slice.Eq.{bytes_eq-Decides}
use Rattle.std.specs.List.{list_all, list_any}
use Rattle.byte_grammar.specs.Causes.{AnswersWhere}
use Rattle.sfv_text.specs.declared.pair.Pair.{Pair}
use Rattle.sfv_text.specs.declared.value.Member.{Member}
use Rattle.sfv_text.specs.Range.{is_dict_in_range}
use Rattle.sfv_text.specs.Strict.{dict_text}
use Rattle.sfv_read.specs.Reads.{ReadsDict}
use Rattle.sfv_read.proofs.StrictReads.{dict_text_reads}
use Rattle.content_digest.specs.declared.algorithm.Algorithm.{Algorithm}
use Rattle.content_digest.specs.declared.algorithm.Algorithm.TheVariants.{Sha256, Sha512}
use Rattle.content_digest.specs.Algorithms.{digest_by}
use Rattle.content_digest.specs.declared.fault.DigestFault.{DigestFault}
use Rattle.content_digest.specs.declared.fault.DigestFault.TheVariants.{Memory, Malformed, NoneKnown, Mismatch}
use Rattle.content_digest.specs.Digests.{DigestHolds, is_known, is_sound, agrees, digest_dict}
use Rattle.content_digest.specs.Faults.{IsDigestFault}
use Rattle.content_digest.specs.tools.Judged.{FailsByMembers, ExplainsDigest}
use Rattle.content_digest.proofs.DigestLaws.{one_digest_fault, no_fault_where_holds, is_mismatch}

-- the members are judged
pub members_explain : (text content : List ℕ) (dict : List (Pair Member)) (result : Result ⊤ DigestFault) → ReadsDict text dict → list_all is_sound dict ≡ true
    → list_any is_known dict ≡ true → IfOk result (λ _. IsTrue (list_all (agrees content) dict)) → IfErr result (λ fault. FailsByMembers content dict fault)
    → ExplainsDigest text content result
members_explain text content dict (Ok x) reads sound known all fails = record { dict = dict; reads = reads; known = known; each = all }
members_explain text content dict (Err Memory) reads sound known all fails = tt
members_explain text content dict (Err Malformed) reads sound known all fails = absurd fails
members_explain text content dict (Err NoneKnown) reads sound known all fails = absurd fails
members_explain text content dict (Err (Mismatch a k c)) reads sound known all fails = is_mismatch text content dict a k c reads sound known fails

-- ---- the clauses

memory_or : (fault : DigestFault) → (fault ≡ Memory) ⊎ (fault ≢ Memory)
memory_or Memory = inl refl
memory_or Malformed = inr (λ e. absurd cc)
memory_or NoneKnown = inr (λ e. absurd cc)
memory_or (Mismatch a k c) = inr (λ e. absurd cc)

fault_explained : (text content : List ℕ) (fault : DigestFault) → fault ≢ Memory → ExplainsDigest text content (Err fault) → IsDigestFault text content fault
fault_explained text content Memory other is = absurd (other refl)
fault_explained text content Malformed other is = is
fault_explained text content NoneKnown other is = is
fault_explained text content (Mismatch a k c) other is = is

pub answers_where : (text content : List ℕ) (result : Result ⊤ DigestFault) → ExplainsDigest text content result → (fault : DigestFault) → fault ≢ Memory
    → AnswersWhere Memory result fault (IsDigestFault text content fault)
answers_where text content (Ok x) is fault other = record {
  only = λ e. absurd cc;
  there = λ first. absurd (no_fault_where_holds text content fault is first);
}
answers_where text content (Err found) is fault other = record {
  only = λ e. let same : found ≡ fault = cc in fault_explained text content fault other (subst (λ (f : DigestFault). ExplainsDigest text content (Err f)) same is);
  there = λ first. elim (memory_or found) [
    | inl none ↦ inr (ap Err none)
    | inr some ↦ inl (ap Err (one_digest_fault text content found fault (fault_explained text content found some is) first))
  ];
}

pub holds_where_ok : (content : List ℕ) (Reads : List ℕ → Type 0) (result : Result ⊤ DigestFault) → ((text : List ℕ) → Reads text → ExplainsDigest text content result)
    → IfOk result (λ _. (text : List ℕ) → Reads text → DigestHolds text content)
holds_where_ok content Reads (Ok x) is = is
holds_where_ok content Reads (Err fault) is = tt

pub memory_where_holds : (text content : List ℕ) (result : Result ⊤ DigestFault) → ExplainsDigest text content result → DigestHolds text content
    → IfErr result (λ fault. fault ≡ Memory)
memory_where_holds text content (Ok x) is holds = tt
memory_where_holds text content (Err found) is holds = elim (memory_or found) [
  | inl none ↦ none
  | inr some ↦ absurd (no_fault_where_holds text content found holds (fault_explained text content found some is))
]

-- ---- digests that are made

made_known : (algorithm : Algorithm) (content : List ℕ) → list_any is_known (digest_dict algorithm content) ≡ true
made_known Sha256 content = refl
made_known Sha512 content = refl

made_agrees : (algorithm : Algorithm) (content : List ℕ) → list_all (agrees content) (digest_dict algorithm content) ≡ true
made_agrees Sha256 content = rw ((bytes_eq-Decides (digest_by Sha256 content) (digest_by Sha256 content)).1 refl) refl
made_agrees Sha512 content = rw ((bytes_eq-Decides (digest_by Sha512 content) (digest_by Sha512 content)).1 refl) refl

pub made_holds : {E : Type 0} (algorithm : Algorithm) (content : List ℕ) (dict : List (Pair Member)) (result : Result (List ℕ) E) → dict ≡ digest_dict algorithm content
    → is_dict_in_range dict ≡ true → IfOk result (λ text. text ≡ dict_text dict) → IfOk result (λ text. DigestHolds text content)
made_holds algorithm content dict (Ok text) is in_range text_is = record {
  dict = dict;
  reads = subst (λ (t : List ℕ). ReadsDict t dict) (sym text_is) (dict_text_reads dict in_range);
  known = ap (list_any is_known) is ∙ made_known algorithm content;
  each = ap (list_all (agrees content)) is ∙ made_agrees algorithm content;
}
made_holds algorithm content dict (Err fault) is in_range text_is = tt
