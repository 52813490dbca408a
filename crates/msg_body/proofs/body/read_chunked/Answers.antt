use Rattle.std.proofs.Common.{refl, inr}
use Rattle.framing.specs.Views.{chunks_of}
use Rattle.msg_body.proofs.Readings.{chunk_offset, chunk_fault, trailer_offset, trailer_fault, chunked_whole}
use Rattle.msg_body.proofs.body.read_chunked.Goals as goal

pub of_chunks-requires : goal.of_chunks-requires
of_chunks-requires c = chunk_offset c.args.start c.args.bytes.now c.in-Err.fault c.requires.short ((c.in-Err.ensures.fault c.in-Err.fault).0 refl)

pub returns-in-Err : goal.returns-in-Err
returns-in-Err c n own = chunk_fault c.args.start c.args.bytes.now c.in-Err.fault c.of_chunks.result c.of_chunks.ensures ((c.in-Err.ensures.fault c.in-Err.fault).0 refl)

pub returns-in-Ok-Whole-read_trailer : goal.returns-in-Ok-Whole-read_trailer
returns-in-Ok-Whole-read_trailer c =
    let chunks = rw c.in-Ok-Whole.field-0-is at c.in-Ok-Whole.ensures in
    let trailer = rw (c.in-Ok-Whole-read_trailer.field-0-is, c.split_at.ensures.back) at c.in-Ok-Whole-read_trailer.ensures in
    chunked_whole c.args.bytes.now c.in-Ok-Whole.chunks c.in-Ok-Whole.used c.in-Ok-Whole-read_trailer.trailer c.in-Ok-Whole-read_trailer.count chunks.whole trailer.whole

pub returns-in-Ok-Partial-read_trailer : goal.returns-in-Ok-Partial-read_trailer
returns-in-Ok-Partial-read_trailer c n =
    let chunks = rw c.in-Ok-Whole.field-0-is at c.in-Ok-Whole.ensures in
    let trailer = rw (c.in-Ok-Partial-read_trailer.field-0-is, c.split_at.ensures.back) at c.in-Ok-Partial-read_trailer.ensures in
    inr (record {
      part = chunks_of c.in-Ok-Whole.chunks;
      used = c.in-Ok-Whole.used;
      is = chunks.whole.spells;
      holds = trailer.partial.0 refl;
    })

pub of_trailer-requires : goal.of_trailer-requires
of_trailer-requires c =
    let chunks = rw c.in-Ok-Whole.field-0-is at c.in-Ok-Whole.ensures in
    let trailer = rw c.split_at.ensures.back at c.in-Err-read_trailer.ensures in
    trailer_offset c.args.start c.args.bytes.now c.in-Ok-Whole.used c.in-Err-read_trailer.fault c.requires.short chunks.whole.within (λ own. (trailer.fault c.in-Err-read_trailer.fault own).only refl)

pub returns-in-Err-read_trailer : goal.returns-in-Err-read_trailer
returns-in-Err-read_trailer c n =
    let chunks = rw c.in-Ok-Whole.field-0-is at c.in-Ok-Whole.ensures in
    let trailer = rw c.split_at.ensures.back at c.in-Err-read_trailer.ensures in
    trailer_fault c.args.start c.args.bytes.now c.in-Ok-Whole.chunks c.in-Ok-Whole.used c.in-Err-read_trailer.fault c.of_trailer.result chunks.whole c.of_trailer.ensures (λ own. (trailer.fault c.in-Err-read_trailer.fault own).only refl)
