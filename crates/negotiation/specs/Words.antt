-- What faults say.
use Rattle.std.specs.Prelude.{ℕ, List, codes}
use Rattle.signing.specs.Words.{sign_fault_text, want_fault_text}
use Rattle.negotiation.specs.declared.fault.EachFault.{EachFault}
use Rattle.negotiation.specs.declared.fault.EachFault.TheVariants as each
use Rattle.negotiation.specs.declared.fault.NegotiateFault.{NegotiateFault}
use Rattle.negotiation.specs.declared.fault.NegotiateFault.TheVariants as negotiate

-- why one of the signatures isn't made
abbrev pub each_fault_text : EachFault → List ℕ
each_fault_text each.Memory = codes "out of memory"
each_fault_text (each.Sign index fault) = sign_fault_text fault

-- why a response isn't signed as its request asks
abbrev pub negotiate_fault_text : NegotiateFault → List ℕ
negotiate_fault_text negotiate.Memory = codes "out of memory"
negotiate_fault_text negotiate.WishMalformed = codes "wish-malformed"
negotiate_fault_text negotiate.Unacceptable = codes "wish-unacceptable"
negotiate_fault_text negotiate.DigestUnmet = codes "wish-digest"
negotiate_fault_text (negotiate.Wanted fault) = want_fault_text fault
negotiate_fault_text (negotiate.Sign index fault) = sign_fault_text fault
