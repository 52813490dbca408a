-- Which of several policies judges a signature, by its parameter `tag` (RFC 9421 section 2.3).
use Rattle.std.specs.Prelude.{ℕ, Bool, false, Option, Some, None, is_none, List}
use Rattle.std.specs.List.{find}
use Rattle.std.specs.Str.{bytes_eq}
use Rattle.settings.specs.declared.policy.Policy.{Policy}

-- it is this tag, where there is one
abbrev pub is_tag : List ℕ → Option (List ℕ) → Bool
is_tag tag (Some own) = bytes_eq own tag
is_tag tag None = false

-- the policy is for signatures with this tag
abbrev pub selects : List ℕ → Policy → Bool
selects tag policy = is_tag tag policy.selects

-- the policy for signatures that no other is for, where there is one
abbrev pub default_policy : List Policy → Option Policy
default_policy policies = find (λ policy. is_none policy.selects) policies

-- the first that is there
abbrev pub or_else : Option Policy → Option Policy → Option Policy
or_else (Some policy) other = Some policy
or_else None other = other

-- the policy that selects the tag of a signature, or else the one that selects none
abbrev pub policy_for : List Policy → Option (List ℕ) → Option Policy
policy_for policies (Some tag) = or_else (find (selects tag) policies) (default_policy policies)
policy_for policies None = default_policy policies
