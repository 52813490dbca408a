-- A step gives one message, or none, and a signature permits it or not.
use Rattle.rewrite_script.specs.declared.rewrite.Rewrite.TheVariants.{Lines, Whole}
use Rattle.line_rewrites.proofs.Deciding.{has_message_or_none as lines_or_none}
use Rattle.line_rewrites.proofs.Permitting.{permits_or_not as lines_decided}
use Rattle.line_rewrites.proofs.Results.{gives_one_message as lines_one}
use Rattle.whole_rewrites.proofs.WholeLaws.{gives_one as whole_one, gives_or_not as whole_or_none}
use Rattle.whole_rewrites.proofs.WholePermits.{permits_whole_or_not}
use Rattle.rewrites.specs.Decisions.{HasMessageOrNone, PermitsOrNot}
use Rattle.rewrites.specs.Laws.{GivesOneMessage}

pub gives_one_message : GivesOneMessage
gives_one_message context (Lines step) after other a b = lines_one context step after other a b
gives_one_message context (Whole step) after other a b = whole_one context step after other a b

pub has_message_or_none : HasMessageOrNone
has_message_or_none context (Lines step) writable is = lines_or_none context step writable is
has_message_or_none context (Whole step) writable is = whole_or_none context step writable is

pub permits_or_not : PermitsOrNot
permits_or_not context (Lines step) label params = lines_decided context step label params
permits_or_not context (Whole step) label params = permits_whole_or_not step context params
