use Rattle.hop_audit.proofs.OneBases.{is_kept_with_its_base, is_kept_with_its_base_at_hops, tells_what_changed, tells_what_changed_at_hops}
use Rattle.hop_audit.proofs.laws.one_tag_tells_one_base.Goals as goal

pub returns : goal.returns
returns c = record {
  kept = is_kept_with_its_base;
  kept_line = is_kept_with_its_base_at_hops;
  changed = tells_what_changed;
  changed_line = tells_what_changed_at_hops;
}
