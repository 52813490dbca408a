-- Start lines with another target, as the code writes them. No public clause cites this module.
use Rattle.std.specs.Prelude.{◌≡◌, ⊤, ℕ, Result, Ok, Err, List, ◌++◌, codes}
use Rattle.msg_head.specs.Starts.{RequestLine, request, request_text}
use Rattle.component_values.specs.Context.{MessageContext}
use Rattle.component_values.specs.Values.{Has}
use Rattle.line_rewrites.specs.declared.fault.ApplyFault.{ApplyFault}
use Rattle.line_rewrites.specs.declared.fault.ApplyFault.TheVariants.{Memory, NotApplicable}
use Rattle.line_rewrites.specs.Sound.{Fits}
use Rattle.whole_rewrites.specs.declared.target.NewTarget.{NewTarget}
use Rattle.whole_rewrites.specs.Targets.{derived_id, with_target}

-- the pieces one after the other
abbrev pub new_target_text : NewTarget → List ℕ
new_target_text target =
    target.first.now ++ (target.second.now ++ (target.third.now ++ target.last.now))

-- the text is the line with this target and what came after the line; or the line has no room
abbrev pub Retargets : RequestLine → List ℕ → List ℕ → Result (List ℕ) ApplyFault → Type 0
Retargets line target more (Ok text) = Fits (request (with_target line target))
    × (text ≡ request_text (with_target line target) ++ more)
Retargets line target more (Err NotApplicable) = ¬ Fits (request (with_target line target))
Retargets line target more (Err Memory) = ⊤

-- the text is the value of `@authority`; or the message lacks one
abbrev pub NamesAuthority : MessageContext → Result (List ℕ) ApplyFault → Type 0
NamesAuthority context (Ok text) = Has context (derived_id (codes "@authority")) text
NamesAuthority context (Err NotApplicable) =
    (value : List ℕ) → ¬ Has context (derived_id (codes "@authority")) value
NamesAuthority context (Err Memory) = ⊤
