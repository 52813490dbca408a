-- The scripts of a sample's hops: each pads a line, moves a line, and cuts the content anew.
use Rattle.std.specs.Prelude.{ℕ, zero, suc, ◌+◌, ◌/◌, ◌%◌, ◌==◌, List, [], ◌∷◌, ◌++◌, replicate, if◌then◌else◌}
use Rattle.std.specs.Str.{byte}
use Rattle.msg_head.specs.declared.error.Side.TheVariants.{Header}
use Rattle.rewrite_script.specs.declared.rewrite.LineRewrite.TheVariants.{Pad, Move}
use Rattle.rewrite_script.specs.declared.rewrite.Rewrite.{Rewrite}
use Rattle.rewrite_script.specs.declared.rewrite.Rewrite.TheVariants.{Lines, Whole}
use Rattle.rewrite_script.specs.declared.rewrite.WholeRewrite.TheVariants.{Rechunk}
use Rattle.samples.specs.Draws.{draw, state_after}
use Rattle.samples.specs.declared.limits.TheConstants.{CONTENT_BYTES, SIGNED_LINES}

-- as many chunks of this size as the content has, and the rest of it
abbrev pub sizes_of : ℕ → List ℕ
sizes_of size = replicate (CONTENT_BYTES / size) size
    ++ (if CONTENT_BYTES % size == 0 then [] else CONTENT_BYTES % size ∷ [])

-- the steps of the hop that begins with this state
abbrev pub hop_steps : ℕ → List Rewrite
hop_steps state =
    Lines (Pad Header (draw state 1 SIGNED_LINES) (replicate (1 + draw state 2 3) (byte " ")) [])
    ∷ Lines (Move Header (draw state 3 SIGNED_LINES) (draw state 4 SIGNED_LINES))
    ∷ Whole (Rechunk (sizes_of (1000 + draw state 5 9000))) ∷ []

-- how many draws a hop takes
abbrev pub hop_draws : ℕ
hop_draws = 5

-- the steps of so many hops, of which the first begins with this state
abbrev pub scripts_from : ℕ → ℕ → List (List Rewrite)
scripts_from state zero = []
scripts_from state (suc count) =
    hop_steps state ∷ scripts_from (state_after hop_draws state) count
