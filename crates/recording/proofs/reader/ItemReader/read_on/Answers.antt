use Rattle.std.proofs.Common.{◌≤◌, ◌+◌, arith, Bool, Result, Ok, ap, subst, sym, ◌∙◌}
use Rattle.recording.specs.Readers.{ReaderState, idle_reads}
use Rattle.recording.specs.declared.item_fault.ItemFault.{ItemFault}
use Rattle.recording.specs.declared.reader.ReaderStage.{ReaderStage}
use Rattle.recording.specs.tools.ReaderSteps.{IsGoing, GoesOver, ReadsHeld, TakesPiece}
use Rattle.recording.proofs.PieceLaws.{ReadsOn, end_idle, end_reads, fault_reads, handed_on, piece_reads, waiting_going, waiting_short}
use Rattle.recording.proofs.reader.ItemReader.read_on.Goals as goal

abbrev the_ok : Bool → Result Bool ItemFault
the_ok found = Ok found

pub take_piece-requires-clause-short : goal.take_piece-requires-clause-short
take_piece-requires-clause-short g c =
    let mid = c.reach_held.new.self in
    let over = subst (λ (b : Bool). GoesOver c.pieces.self mid (Ok b)) c.if-not-branch.true c.in_ok-reach_held.ensures.over in
    waiting_short mid.stage mid.moment mid.held over.0

pub returns-in_err-take_piece-clause-reads : goal.returns-in_err-take_piece-clause-reads
returns-in_err-take_piece-clause-reads g c =
    let old = c.pieces.self in
    let mid = c.reach_held.new.self in
    let new = c.take_piece.new.self in
    let left = g.S.Source.left in
    let over = subst (λ (b : Bool). GoesOver old mid (Ok b)) c.if-not-branch.true c.in_ok-reach_held.ensures.over in
    let reads = subst (λ (b : Bool). ReadsHeld old mid (Ok b)) c.if-not-branch.true c.in_ok-reach_held.ensures.reads in
    let takes = c.in_err-take_piece.ensures.takes in
    let fault = c.in_err-take_piece.field-0.0 in
    handed_on c.from_residual-in_err-take_piece.result fault (ReadsOn c.args.self.now new (left c.args.source.now) (left c.take_piece.new.source)) c.from_residual-in_err-take_piece.ensures.1
    (fault_reads c.args.self.now old mid (left c.args.source.now) (left c.pieces.source) c.pieces.invariant.reads reads over.0 (left c.take_piece.new.source) takes.0 takes.1 takes.2 new fault takes.3)

pub returns-then-not-branch-2-clause-reads : goal.returns-then-not-branch-2-clause-reads
returns-then-not-branch-2-clause-reads g c =
    let old = c.pieces.self in
    let mid = c.reach_held.new.self in
    let last = c.take_piece.new.self in
    let left = g.S.Source.left in
    let over = subst (λ (b : Bool). GoesOver old mid (Ok b)) c.if-not-branch.true c.in_ok-reach_held.ensures.over in
    let reads = subst (λ (b : Bool). ReadsHeld old mid (Ok b)) c.if-not-branch.true c.in_ok-reach_held.ensures.reads in
    let takes = c.in_ok-take_piece.ensures.takes in
    let none = subst (λ (b : Bool). TakesPiece mid last takes.0 (left c.take_piece.new.source) (Ok b)) c.if-not-branch-2.true takes.3 in
    end_reads c.args.self.now old mid (left c.args.source.now) (left c.pieces.source) c.pieces.invariant.reads reads over.0 (left c.take_piece.new.source) takes.0 takes.1 takes.2
    last c.reach_end.new.self c.reach_end.result none c.reach_end.ensures.kind c.reach_end.ensures.ends

pub returns-then-not-branch-2-clause-idle : goal.returns-then-not-branch-2-clause-idle
returns-then-not-branch-2-clause-idle g c =
    let idle = g.S.Source.idle in
    let last : idle c.take_piece.new.source ≤ idle c.pieces.source + 1 = subst (λ (b : Bool). idle c.take_piece.new.source ≤ idle c.pieces.source + idle_reads (Ok b)) c.if-not-branch-2.true c.in_ok-take_piece.ensures.idle in
    end_idle (idle c.args.source.now) (idle c.take_piece.new.source) c.reach_end.result c.reach_end.ensures.kind (omega (arith, last, c.pieces.invariant.idle))

pub pieces-preserved : goal.pieces-preserved
pieces-preserved g c =
    let old = c.pieces.self in
    let mid = c.reach_held.new.self in
    let new = c.take_piece.new.self in
    let left = g.S.Source.left in
    let kept = c.pieces.invariant in
    let over = subst (λ (b : Bool). GoesOver old mid (Ok b)) c.if-not-branch.true c.in_ok-reach_held.ensures.over in
    let reads = subst (λ (b : Bool). ReadsHeld old mid (Ok b)) c.if-not-branch.true c.in_ok-reach_held.ensures.reads in
    let takes = c.in_ok-take_piece.ensures.takes in
    let idle = g.S.Source.idle in
    let came : idle c.take_piece.new.source ≤ idle c.pieces.source + 0 = subst (λ (b : Bool). idle c.take_piece.new.source ≤ idle c.pieces.source + idle_reads (Ok b)) c.if-not-branch-2.false c.in_ok-take_piece.ensures.idle in
    let some = subst (λ (b : Bool). TakesPiece mid new takes.0 (left c.take_piece.new.source) (Ok b)) c.if-not-branch-2.false takes.3 in
    record {
      none = ap (λ (s : ReaderState). s.item) some.1 ∙ over.1;
      going = subst (λ (s : ReaderStage). IsGoing s) (sym (ap (λ (s : ReaderState). s.stage) some.1)) (waiting_going mid.stage mid.moment mid.held over.0);
      count = ap (λ (s : ReaderState). s.count) some.1 ∙ over.3 ∙ kept.count;
      kept = c.in_ok-take_piece.ensures.faults ∙ kept.kept;
      unended = λ z. c.in_ok-take_piece.ensures.unended (ap (λ (b : Bool). the_ok b) c.if-not-branch-2.false) (kept.unended z);
      idle = omega (arith, came, kept.idle);
      reads = piece_reads c.args.self.now old mid (left c.args.source.now) (left c.pieces.source) kept.reads reads over.0 (left c.take_piece.new.source) takes.0 takes.1 takes.2 new some.1;
    }
