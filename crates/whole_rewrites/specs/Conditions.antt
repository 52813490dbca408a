-- What a rewriting of the whole message asks of a signature that is to stay, where all is judged
-- that rests on no signature.
use Rattle.std.specs.Prelude.{◌↔◌, ⊤, ℕ, IsTrue, IsFalse, List, [], ◌∷◌, codes}
use Rattle.std.specs.List.{All, list_any}
use Rattle.msg_head.specs.declared.error.Side.TheVariants.{Header}
use Rattle.component_ids.specs.declared.id.ComponentId.{ComponentId}
use Rattle.component_ids.specs.declared.params.SigParams.{SigParams}
use Rattle.component_values.specs.Context.{MessageContext}
use Rattle.rewrite_script.specs.declared.rewrite.WholeRewrite.{WholeRewrite}
use Rattle.line_rewrites.specs.Covered.{covers_field}
use Rattle.whole_rewrites.specs.Covered.{covers_one_of, covers_unread, is_own_of, rests_on_label}
use Rattle.whole_rewrites.specs.Permitted.{HaveSameParam, MayChangeTarget, MayFrameAnew, PermitsWhole, whole_query_names}
use Rattle.whole_rewrites.specs.declared.condition.WholeCondition.{WholeCondition}
use Rattle.whole_rewrites.specs.declared.condition.WholeCondition.TheVariants.{Always, Never, LabelUncovered, FramingUncovered, TargetUncovered, HostUncovered, QueryUncovered, QueryKept, UnreadUncovered}

-- the component that is a parameter of the query (RFC 9421 section 2.2.8)
abbrev pub query_param_names : List (List ℕ)
query_param_names = codes "@query-param" ∷ []

-- where the component is a parameter of the query, both queries have the same values of it
abbrev pub KeepsParamIn : List ℕ → List ℕ → ComponentId → Type 0
KeepsParamIn query other id =
    IsTrue (is_own_of query_param_names id) → HaveSameParam query other id

-- a signature of these parameters meets the condition
abbrev pub IsMetBy : SigParams → WholeCondition → Type 0
IsMetBy params Always = ⊤
IsMetBy params Never = ⊥
IsMetBy params (LabelUncovered label) = IsFalse (list_any (rests_on_label label.now) params.ids)
IsMetBy params FramingUncovered = MayFrameAnew params
IsMetBy params TargetUncovered = MayChangeTarget params
IsMetBy params HostUncovered = IsFalse (covers_field Header (codes "host") params)
IsMetBy params QueryUncovered = IsFalse (covers_one_of whole_query_names params)
    × IsFalse (covers_one_of query_param_names params)
IsMetBy params (QueryKept queries) = IsFalse (covers_one_of whole_query_names params)
    × All (KeepsParamIn queries.query queries.other) params.ids
IsMetBy params (UnreadUncovered side name) = IsFalse (covers_unread side name.now params)

-- it is what the step asks: the signatures that meet it are those that permit the step
abbrev pub IsWholeCondition : MessageContext → WholeRewrite → WholeCondition → Type 0
IsWholeCondition context step condition =
    (params : SigParams) → IsMetBy params condition ↔ PermitsWhole context step params
