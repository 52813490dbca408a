-- A whole head, joined from its parts.
use Rattle.std.proofs.Common.{◌≡◌, ℕ, ◌-◌, ◌<◌, ◌≤◌, List, [], ◌∷◌, ◌++◌, length, map, take, drop, refl, sym, subst, ap, ◌∙◌, arith, length-append, length-take, append_assoc}
use Rattle.std.specs.List.{flat_map}
use Rattle.std.proofs.Math.Seq.{take-append_seam}
use Rattle.std.proofs.lemmas.List.{append-nil, take_all, take-append-drop, length-map}
use Rattle.msg_head.specs.declared.limits.TheConstants.{MAX_HEAD_BYTES}
use Rattle.line_index.specs.declared.span.LineSpan.{LineSpan}
use Rattle.msg_head.specs.Lines.{line_text}
use Rattle.msg_head.specs.Starts.{StartLine, start_text}
use Rattle.msg_head.specs.Cuts.{HasNoEnd, IsSection}
use Rattle.msg_head.specs.Heads.{Head, IsHeadText, SpellsHead, IsUnfinished, head_text}
use Rattle.msg_head.specs.Views.{View, line_at, head_of, FollowEachOther, IsViewOf}
use Rattle.msg_head.specs.Causes.{IsTooLong}
use Rattle.msg_head.specs.tools.Prefixes.{BeginsWithStart}
use Rattle.msg_head.specs.tools.Sections.{AreSpansOf}
use Rattle.msg_head.specs.tools.Judged.{IsSectionView}

pub section_view : (section rest : List ℕ) (start : StartLine) (spans : List LineSpan) → length section ≤ MAX_HEAD_BYTES → BeginsWithStart start rest section → AreSpansOf section spans rest → IsSectionView (record { bytes = section; start = start; spans = spans }) section
section_view section rest start spans short b s =
    let head : Head = record { start = start; lines = map (line_at section) spans } in
    let text : section ≡ head_text head = b.joined ∙ ap (λ (x : List ℕ). start_text start ++ x) s.joined in
    let size = ap (length {A = ℕ}) b.joined ∙ length-append (start_text start) rest in
    let rest_size = ap (length {A = ℕ}) s.joined ∙ length-append (flat_map line_text (map (line_at section) spans)) (13 ∷ 10 ∷ []) in
    let from : length section - length rest ≡ length (start_text start) = omega (arith, size) in
    record {
      bytes_are = refl;
      spells = record {
        is = record { start = b.is; lines = s.each; few = omega (arith, s.few, length-map spans (line_at section)); short = omega (arith, short, ap (length {A = ℕ}) text) };
        text = text;
      };
      fills = (
        length section - 2,
        subst (λ (n : ℕ). FollowEachOther n spans (length section - 2)) from s.follow,
        omega (arith, size, rest_size),
      );
    }

-- ---- the bytes that a head may have

pub length-prefix : (count : ℕ) (bytes prefix : List ℕ) → prefix ≡ take count bytes → length prefix ≤ count
length-prefix count bytes prefix is = omega (arith, ap (length {A = ℕ}) is, length-take {A = ℕ} count bytes)

-- a section of the first bytes is one of the bytes
pub wider_section : (count : ℕ) (bytes prefix section : List ℕ) → prefix ≡ take count bytes → IsSection prefix section → IsSection bytes section
wider_section count bytes prefix section is s = record {
  more = s.more ++ drop count bytes;
  joined =
      sym (take-append-drop count bytes) ∙ ap (λ (x : List ℕ). x ++ drop count bytes) (sym is ∙ s.joined) ∙ append_assoc section s.more (drop count bytes);
  before = s.before;
  ends = s.ends;
  first = s.first;
}

pub section_short : (count : ℕ) (bytes prefix section : List ℕ) → prefix ≡ take count bytes → IsSection prefix section → length section ≤ count
section_short count bytes prefix section is s =
    omega (arith, length-prefix count bytes prefix is, ap (length {A = ℕ}) s.joined, length-append section s.more)

pub own_section : (bytes section : List ℕ) → IsSection bytes section → IsSection section section
own_section bytes section s = record { more = []; joined = sym (append-nil section); before = s.before; ends = s.ends; first = s.first }

-- the first bytes, so many, are all where there are fewer
pub all_of : (count : ℕ) (bytes prefix : List ℕ) → prefix ≡ take count bytes → length bytes < count → prefix ≡ bytes
all_of count bytes prefix is short = is ∙ take_all count bytes (omega (arith, short))

-- where no end is among the first bytes
pub unfinished : (bytes prefix : List ℕ) → prefix ≡ take MAX_HEAD_BYTES bytes → HasNoEnd prefix → length bytes < MAX_HEAD_BYTES → IsUnfinished bytes
unfinished bytes prefix is none short = record { no_end = λ before after e. none before after (all_of MAX_HEAD_BYTES bytes prefix is short ∙ e); short = short }

pub long : (bytes prefix : List ℕ) → prefix ≡ take MAX_HEAD_BYTES bytes → HasNoEnd prefix → MAX_HEAD_BYTES ≤ length bytes → IsTooLong bytes
long bytes prefix is none size = record { long = size; no_end = λ before after e. none before after (is ∙ e) }

-- bytes without an end have no section
pub none_of : (bytes section : List ℕ) → HasNoEnd bytes → ¬ IsSection bytes section
none_of bytes section none s =
    none s.before s.more (s.joined ∙ ap (λ (x : List ℕ). x ++ s.more) s.ends ∙ append_assoc s.before (13 ∷ 10 ∷ 13 ∷ 10 ∷ []) s.more)

pub no_section : (bytes section : List ℕ) → IsUnfinished bytes → ¬ IsSection bytes section
no_section bytes section u = none_of bytes section u.no_end

-- the view of the section is one of the bytes
pub view_of : (bytes section : List ℕ) (view : View) → IsSection bytes section → IsSectionView view section → IsViewOf bytes view (length section)
view_of bytes section view s v = record {
  within = omega (arith, ap (length {A = ℕ}) s.joined, length-append section s.more);
  bytes_are = v.bytes_are ∙ sym (take-append_seam section s.more) ∙ ap (λ (x : List ℕ). take (length section) x) (sym s.joined);
  spells = subst (λ (x : List ℕ). IsHeadText (head_of view) x) (sym v.bytes_are) v.spells;
  fills = v.fills;
}

-- the head that the first bytes spell, by its view
pub spelled_by : (bytes : List ℕ) (view : View) (used : ℕ) → IsViewOf bytes view used → SpellsHead (head_of view) used bytes
spelled_by bytes view used v = record { within = v.within; spells = subst (λ (x : List ℕ). IsHeadText (head_of view) x) v.bytes_are v.spells }
