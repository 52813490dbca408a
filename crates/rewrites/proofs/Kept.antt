-- What is permitted keeps the signature, and so does every list of such steps.
use Rattle.rewrite_script.specs.declared.rewrite.Rewrite.TheVariants.{Lines, Whole}
use Rattle.rewrite_script.specs.declared.rewrite.WholeRewrite.TheVariants.{AddLabel, Rechunk, Chunk, Dechunk, Origin, Absolute, Host, Query, Resf}
use Rattle.line_rewrites.proofs.PermittedSteps.{is_same_where_permitted}
use Rattle.rewrites.specs.Laws.{KeepsOverSteps, KeepsWherePermitted}
use Rattle.rewrites.proofs.AlikeHosts.{host_alike}
use Rattle.rewrites.proofs.AlikeLabels.{label_alike}
use Rattle.rewrites.proofs.AlikeStrict.{resf_alike}
use Rattle.rewrites.proofs.AlikeTargets.{absolute_alike, origin_alike, query_alike}
use Rattle.whole_rewrites.proofs.ContentSame.{chunk_same, dechunk_same, rechunk_same}
use Rattle.rewrites.proofs.Keeping.{keeps_where_alike, keeps_where_same}
use Rattle.rewrites.proofs.KeptSteps.{keeps_over_steps as keeps_over}

pub keeps_where_permitted : KeepsWherePermitted
keeps_where_permitted context (Lines step) label params tag after writable values has gives permits =
    keeps_where_same context label params tag after has (is_same_where_permitted context step label params after writable gives permits)
keeps_where_permitted context (Whole (Rechunk sizes)) label params tag after writable values has gives permits =
    keeps_where_same context label params tag after has (rechunk_same sizes context params after gives permits)
keeps_where_permitted context (Whole (Chunk sizes)) label params tag after writable values has gives permits =
    keeps_where_same context label params tag after has (chunk_same sizes context params after gives permits)
keeps_where_permitted context (Whole Dechunk) label params tag after writable values has gives permits =
    keeps_where_same context label params tag after has (dechunk_same context params after gives permits)
keeps_where_permitted context (Whole Origin) label params tag after writable values has gives permits =
    keeps_where_alike context label params tag after has
    (origin_alike context label params tag after writable values has gives permits)
keeps_where_permitted context (Whole Absolute) label params tag after writable values has gives permits =
    keeps_where_alike context label params tag after has
    (absolute_alike context label params tag after writable values has gives permits)
keeps_where_permitted context (Whole (Host text)) label params tag after writable values has gives permits =
    keeps_where_alike context label params tag after has
    (host_alike text context label params tag after writable values has gives permits)
keeps_where_permitted context (Whole (Query text)) label params tag after writable values has gives permits =
    keeps_where_alike context label params tag after has
    (query_alike text context label params tag after writable values has gives permits)
keeps_where_permitted context (Whole (AddLabel added tag_text text)) label params tag after writable values has gives permits =
    keeps_where_alike context label params tag after has
    (label_alike added tag_text text context label params tag after writable values has gives permits)
keeps_where_permitted context (Whole (Resf side name)) label params tag after writable values has gives permits =
    keeps_where_alike context label params tag after has
    (resf_alike side name context label params tag after writable values has gives permits)

pub keeps_over_steps : KeepsOverSteps
keeps_over_steps = keeps_over keeps_where_permitted
