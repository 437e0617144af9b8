use Rattle.std.proofs.Common.{◌++◌, refl}
use Rattle.khepri_terms.specs.Bytes.{bytes_text}
use Rattle.khepri_terms.proofs.BytesLaws.{plain_print, byte_print, all_printed}
use Rattle.khepri_terms.proofs.Printing.{front_kept, front_then}
use Rattle.khepri_terms.proofs.texts.print_bytes.Goals as goal

pub returns-in-empty-clause-ok : goal.returns-in-empty-clause-ok
returns-in-empty-clause-ok c =
    let mid = c.extend_from_slice.new.self.items in
    let run = c.plain_front in
    let whole = c.args.out.now.items ++ bytes_text c.args.bytes.now in
    let so_far = plain_print whole c.runs.out.items mid run.result.0.now c.runs.rest.now run.result.1.now run.ensures.plain run.ensures.parts c.in_ok-extend_from_slice.ensures.items c.runs.invariant.all in
    all_printed whole mid run.result.1.now c.in-empty.len_below so_far

pub runs-preserved : goal.runs-preserved
runs-preserved c =
    let o = c.args.out.now.items in
    let out = c.runs.out.items in
    let mid = c.extend_from_slice.new.self.items in
    let new = c.print_byte.new.out.items in
    let run = c.plain_front in
    let whole = o ++ bytes_text c.args.bytes.now in
    let items = c.in_ok-extend_from_slice.ensures.items in
    let byte = c.in_ok-print_byte-in-len1-up.ensures.ok in
    record {
      all = byte_print whole mid new run.result.1.now c.in-len1-up.len_at_least byte (plain_print whole out mid run.result.0.now c.runs.rest.now run.result.1.now run.ensures.plain run.ensures.parts items c.runs.invariant.all);
      front = front_then o mid new (front_then o out mid c.runs.invariant.front (front_kept out mid mid run.result.0.now items refl)) (front_kept mid new new _ byte refl);
    }
