-- A signature permits a rewriting of the whole message or not, and what that rests on.
use Rattle.std.proofs.Common.{refl}
use Rattle.rewrite_script.specs.declared.rewrite.WholeRewrite.TheVariants.{AddLabel, Rechunk, Chunk, Dechunk, Origin, Absolute, Host, Query, Resf}
use Rattle.whole_rewrites.specs.Laws.{PermitsWholeOrNot, PermittedByMessages}
use Rattle.whole_rewrites.proofs.FieldPermits.{chunk_decided, dechunk_decided, label_decided, label_permits, rechunk_decided, strict_decided, strict_permits}
use Rattle.whole_rewrites.proofs.TargetPermits.{absolute_decided, absolute_permits, host_decided, host_permits, origin_decided, origin_permits, query_decided, query_permits}

pub permits_whole_or_not : PermitsWholeOrNot
permits_whole_or_not (AddLabel added tag params) = label_decided added tag params
permits_whole_or_not (Rechunk sizes) = rechunk_decided sizes
permits_whole_or_not (Chunk sizes) = chunk_decided sizes
permits_whole_or_not Dechunk = dechunk_decided
permits_whole_or_not Origin = origin_decided
permits_whole_or_not Absolute = absolute_decided
permits_whole_or_not (Host text) = host_decided text
permits_whole_or_not (Query text) = query_decided text
permits_whole_or_not (Resf side name) = strict_decided side name

pub permitted_by_messages : PermittedByMessages
permitted_by_messages context other (AddLabel added tag text) params same agree = label_permits added tag text context other same params
permitted_by_messages context other (Rechunk sizes) params same agree = λ permits. permits
permitted_by_messages context other (Chunk sizes) params same agree = λ permits. permits
permitted_by_messages context other Dechunk params same agree = λ permits. permits
permitted_by_messages context other Origin params same agree = origin_permits context other same (agree refl) params
permitted_by_messages context other Absolute params same agree = absolute_permits context other same (agree refl) params
permitted_by_messages context other (Host text) params same agree = host_permits text context other same (agree refl) params
permitted_by_messages context other (Query text) params same agree = query_permits text context other same params
permitted_by_messages context other (Resf side name) params same agree = strict_permits side name context other params
