-- Which policy judges a signature, and how long the nonces of what the policies accept live.
use Rattle.std.specs.Prelude.{max, ◌+◌, ◌*◌, ℕ, Option, List, [], ◌∷◌}
use Rattle.component_ids.specs.declared.params.SigParams.{SigParams}
use Rattle.settings.specs.Chosen.{policy_for}
use Rattle.settings.specs.Configuration.{Configuration}
use Rattle.settings.specs.declared.policy.Policy.{Policy}
use Rattle.verdicts.specs.Parameters.{tag_param_of}

-- the policy by which signature parameters are judged: that of their `tag` (RFC 9421 section 2.3),
-- where there is one
abbrev pub policy_of : Configuration → SigParams → Option Policy
policy_of conf params = policy_for conf.policies (tag_param_of params)

-- the greatest number of seconds that the policies take a signature for: its age, and twice what
-- clocks may be apart
abbrev pub window_over : List Policy → ℕ
window_over [] = 0
window_over (policy ∷ policies) = max (policy.max_age + 2 * policy.skew) (window_over policies)

-- how many seconds after now the nonce of an accepted signature has to be remembered at most (RFC
-- 9421 section 7.2.2), by whichever policy
abbrev pub window_of : Configuration → ℕ
window_of conf = window_over conf.policies
