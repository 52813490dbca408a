-- What holds of each kind of rewriting of the whole message.
use Rattle.rewrite_script.specs.declared.rewrite.WholeRewrite.{WholeRewrite}
use Rattle.rewrite_script.specs.declared.rewrite.WholeRewrite.TheVariants.{AddLabel, Rechunk, Chunk, Dechunk, Origin, Absolute, Host, Query, Resf}
use Rattle.whole_rewrites.specs.tools.Kinds.{IsExactKind}
use Rattle.whole_rewrites.proofs.ContentKinds.{chunk_exact, dechunk_exact, rechunk_exact}
use Rattle.whole_rewrites.proofs.FieldKinds.{host_exact, label_exact, strict_exact}
use Rattle.whole_rewrites.proofs.TargetKinds.{absolute_exact, origin_exact, query_exact}

pub exact : (step : WholeRewrite) → IsExactKind step
exact (AddLabel added tag params) = label_exact added tag params
exact (Rechunk sizes) = rechunk_exact sizes
exact (Chunk sizes) = chunk_exact sizes
exact Dechunk = dechunk_exact
exact Origin = origin_exact
exact Absolute = absolute_exact
exact (Host text) = host_exact text
exact (Query text) = query_exact text
exact (Resf side name) = strict_exact side name
