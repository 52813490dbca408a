-- Another text of the one line `Host` keeps what a signature that permits it rests on.
use Rattle.std.proofs.Common.{◌≡◌, ◌≢◌, ◌↔◌, ◌<◌, ℕ, [], ◌∷◌, ◌++◌, ◌∙◌, true, false, Option, Some, None, Result, Ok, List, codes, length, get_or, refl, sym, subst, ap, inl, inr}
use Rattle.std.specs.Str.{byte, bytes_eq}
use Rattle.std.proofs.lemmas.Bool.{false≢true}
use Rattle.std.proofs.lemmas.Slice.Eq.{bytes_eq-Decides}
use Rattle.sfv_text.specs.declared.pair.Pair.{Pair}
use Rattle.sfv_text.specs.declared.value.BareItem.{BareItem}
use Rattle.msg_head.specs.Lines.{FieldLine}
use Rattle.msg_head.specs.Names.{has_name}
use Rattle.msg_head.specs.Starts.{RequestLine, StartLine, request, status}
use Rattle.msg_head.specs.Values.{value, values}
use Rattle.msg_head.specs.declared.error.Side.{Side}
use Rattle.msg_head.specs.declared.error.Side.TheVariants.{Header, Trailer}
use Rattle.msg_body.specs.SameFields.{HasSameField, HasSameValues, name_of}
use Rattle.framing.specs.Framings.{is_request}
use Rattle.msg_body.specs.Messages.{Message}
use Rattle.msg_body.specs.Views.{lines_on}
use Rattle.derived_values.specs.Targets.{TargetParts, SpellsTarget}
use Rattle.component_ids.specs.Table.{has_param, is_field_name}
use Rattle.component_ids.specs.declared.id.ComponentId.{ComponentId}
use Rattle.component_ids.specs.declared.params.SigParams.{SigParams}
use Rattle.derived_values.specs.Derived.{FormedRow, named_authority, scheme_of, sole_value, AuthorityRow, DerivedRow, RequestParts}
use Rattle.derived_values.specs.Laws.{HasSameAsked, HaveSameParts}
use Rattle.derived_values.specs.declared.derived.DerivedName.{DerivedName}
use Rattle.derived_values.specs.declared.derived.DerivedName.TheVariants.{Method, RequestTarget, Status, OfTarget as FromTarget}
use Rattle.derived_values.specs.declared.derived.TargetName.TheVariants as name
use Rattle.derived_values.specs.declared.lack.Lack.{Lack}
use Rattle.component_values.specs.Alike.{ComesToSame, is_own_field}
use Rattle.component_values.specs.Context.{MessageContext, answers_head}
use Rattle.component_values.specs.Values.{side_of}
use Rattle.component_values.proofs.LineLaws.{depends_on_own_lines}
use Rattle.signatures.specs.Signatures.{HasSignature, input_name, signature_name}
use Rattle.verdicts.specs.ContentDigest.{digest_name, digest_text}
use Rattle.rewrite_script.specs.declared.rewrite.WholeRewrite.TheVariants.{Host}
use Rattle.line_rewrites.specs.Covered.{covers_field}
use Rattle.line_rewrites.specs.LineLists.{line_of}
use Rattle.line_rewrites.specs.Steps.{with_head}
use Rattle.rewrites.specs.Laws.{IsAlikeAfter, IsAlikeForLabel}
use Rattle.whole_rewrites.specs.Lines.{IsOtherHost}
use Rattle.whole_rewrites.specs.Permitted.{IsSameHost}
use Rattle.rewrites.proofs.AlikeParts.{come_to_same, field_of_values, read_alike, signed_as_well, no_values, one_value, values_parts}
use Rattle.rewrites.proofs.AlikeTargets.{authority_rows, derived_kept, of_line}
use Rattle.rewrites.proofs.CoveredFields.{field_is_covered, same_in_form}
use Rattle.whole_rewrites.proofs.FieldValues.{keeps_others_than_host}

-- ---- the one line `Host`

name_apart : (name : List ℕ) → bytes_eq (codes "host") name ≡ false → name ≢ codes "host"
name_apart name apart is = false≢true (sym apart ∙ ap (bytes_eq (codes "host")) is)

-- then it has the value of the text
host_values : (text : List ℕ) (lines replaced : List FieldLine) → IsOtherHost text lines replaced → values replaced (codes "host") ≡ value (byte " " ∷ text) ∷ []
host_values text lines replaced is =
    let name = codes "host" in
    let other_is : is.other ≡ line_of is.line.name text = is.becomes in
    let has : has_name name (line_of is.line.name text) ≡ true = (bytes_eq-Decides (name_of is.line) name).1 is.named in
    ap (λ (ls : List FieldLine). values ls name) is.replaced_are
    ∙ (values_parts is.before (is.other ∷ is.after) name
    ∙ (ap (λ (vs : List (List ℕ)). vs ++ values (is.other ∷ is.after) name) (no_values is.before name is.none_before)
    ∙ (ap (λ (l : FieldLine). values (l ∷ is.after) name) other_is
    ∙ (one_value (line_of is.line.name text) is.after name has ∙ ap (λ (vs : List (List ℕ)). value (byte " " ∷ text) ∷ vs) (no_values is.after name is.none_after)))))

request_there : (start : StartLine) → is_request start ≡ true → (line : RequestLine) × (start ≡ request line)
request_there (request line) is = (line, refl)
request_there (status line) is = absurd cc

-- the same parts of the same target answer the same
asked_of_same : (derived : DerivedName) (params : List (Pair BareItem)) (one other : RequestParts) (parts : TargetParts) → other.target ≡ one.target → HasSameAsked derived params one other parts parts
asked_of_same Method params one other parts same = tt
asked_of_same Status params one other parts same = tt
asked_of_same RequestTarget params one other parts same = same
asked_of_same (FromTarget name.Scheme) params one other parts same = tt
asked_of_same (FromTarget name.Authority) params one other parts same = tt
asked_of_same (FromTarget name.Path) params one other parts same = tt
asked_of_same (FromTarget name.Query) params one other parts same = refl
asked_of_same (FromTarget name.TargetUri) params one other parts same = refl
asked_of_same (FromTarget name.QueryParam) params one other parts same = refl

-- ---- another text of the one line `Host`

module _ (context : MessageContext) (text : List ℕ) (replaced : List FieldLine) (change : IsOtherHost text context.message.head.lines replaced) where
  abbrev hosted : Message
  hosted = with_head (answers_head context.related) context.message (record { start = context.message.head.start; lines = replaced })

  -- a field that isn't `Host` of the header
  others_kept : (side : Side) (name : List ℕ) → (side ≡ Header → name ≢ codes "host") → HasSameValues (lines_on side context.message) (lines_on side hosted) name
  others_kept Header name other = keeps_others_than_host text name context.message.head.lines replaced change (other refl)
  others_kept Trailer name other = record { there = refl; same = refl }

  header_kept : (name : List ℕ) → bytes_eq (codes "host") name ≡ false → HasSameField (lines_on Header context.message) (lines_on Header hosted) name
  header_kept name apart = field_of_values context.message.head.lines replaced name (others_kept Header name (λ _. name_apart name apart))

  hosted_field : (params : SigParams) → covers_field Header (codes "host") params ≡ false → (k : ℕ) (d : ComponentId) → k < length params.ids → is_own_field (get_or params.ids k d) ≡ true
      → ComesToSame context hosted (get_or params.ids k d)
  hosted_field params none k d lt own =
      let id = get_or params.ids k d in
      let side = side_of id.params in
      let covered : covers_field side id.name params ≡ true = field_is_covered params k d lt own in
      let same = others_kept side id.name (λ header is. false≢true (sym none ∙ (ap (λ (s : Side). covers_field s (codes "host") params) (sym header)
      ∙ (ap (λ (n : List ℕ). covers_field side n params) (sym is) ∙ covered)))) in
      depends_on_own_lines context hosted id own
      (same_in_form (lines_on side context.message) (lines_on side hosted) id.name (field_of_values (lines_on side context.message) (lines_on side hosted) id.name same) id.params (λ wrapped. same))

  module _ (line : RequestLine) (was : context.message.head.start ≡ request line) (same_host : IsSameHost context text) where
    abbrev host_before : RequestParts
    host_before = of_line context context.message.head.lines line

    abbrev host_after : RequestParts
    host_after = of_line context replaced line

    -- the parts of the target, of which the scheme is
    parts_were : (parts : TargetParts) × SpellsTarget line.method line.target parts × (scheme_of host_before parts ≡ same_host.scheme)
    parts_were = from_row (subst (λ (s : StartLine). DerivedRow (Some (FromTarget name.Scheme)) [] context.scheme context.message.head.lines s (Ok same_host.scheme)) was same_host.has)
      where
        from_row : FormedRow name.Scheme [] host_before (Ok same_host.scheme)
            → (parts : TargetParts) × SpellsTarget line.method line.target parts × (scheme_of host_before parts ≡ same_host.scheme)
        from_row (inl (own, spells, row)) = (own, spells, cc row)
        from_row (inr (none, lacks)) = absurd (cc lacks)

    authority_hosted : (authority : Option (List ℕ)) (result : Result (List ℕ) Lack)
        → AuthorityRow (scheme_of host_before parts_were.0) (named_authority host_before authority) result ↔ AuthorityRow (scheme_of host_before parts_were.0) (named_authority host_after authority) result
    authority_hosted (Some name) result = (λ row. row, λ row. row)
    authority_hosted None result =
        authority_rows (scheme_of host_before parts_were.0) (scheme_of host_before parts_were.0) same_host.scheme same_host.host (value (byte " " ∷ text)) same_host.same.0
        (named_authority host_before None) (named_authority host_after None) parts_were.2 parts_were.2 (ap sole_value same_host.one_host)
        (ap sole_value (host_values text context.message.head.lines replaced change)) same_host.same.1 same_host.same.2 result

    hosted_same : HaveSameParts host_before host_after parts_were.0 parts_were.0
    hosted_same = record {
      spells = parts_were.1;
      other_spells = parts_were.1;
      method = refl;
      scheme = refl;
      authority = authority_hosted parts_were.0.authority;
      path = refl;
    }

    hosted_derived : (id : ComponentId) → has_param id.params (codes "req") ≡ false → is_field_name id.name ≡ false → ComesToSame context hosted id
    hosted_derived id own derived =
        derived_kept context hosted line line parts_were.0 parts_were.0 was was hosted_same id own derived (λ d named. asked_of_same d id.params host_before host_after parts_were.0 refl)

    hosted_alike : (label : List ℕ) (params : SigParams) (tag : List ℕ) → HasSignature context.message label params tag → covers_field Header (codes "host") params ≡ false
        → IsAlikeForLabel context label params tag hosted
    hosted_alike label params tag has none = record {
      kind = refl;
      content = refl;
      signature = signed_as_well context.message hosted label params tag (header_kept input_name refl) (header_kept signature_name refl) has;
      components = come_to_same context hosted params.ids refl (hosted_field params none) (λ k d lt own derived. hosted_derived (get_or params.ids k d) own derived);
      digests = λ covered. read_alike (digest_text context.message) (digest_text hosted) (header_kept digest_name refl).combined;
    }

-- ---- the kind

pub host_alike : (text : List ℕ) → IsAlikeAfter (Host text)
host_alike text context label params tag made writable values has gives may =
    let is = gives.makes.1 in
    let there = request_there context.message.head.start gives.makes.0 in
    subst (λ (m : Message). IsAlikeForLabel context label params tag m) (sym is.made_is)
    (hosted_alike context text is.lines is.change there.0 there.1 may.1 label params tag has may.0)
