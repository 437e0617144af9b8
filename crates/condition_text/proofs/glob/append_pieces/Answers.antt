use Rattle.std.proofs.Common.{take, refl}
use Rattle.std.specs.List.{flat_map}
use Rattle.khepri_terms.proofs.Printing.{front_kept}
use Rattle.std.proofs.lemmas.List.{get_or_default}
use Rattle.khepri_types.specs.Globs.{piece_text}
use Rattle.condition_text.proofs.Loops.{none_yet, one_more, all_done}
use Rattle.condition_text.proofs.glob.append_pieces.Goals as goal

pub loop-piece-init : goal.loop-piece-init
loop-piece-init c = none_yet piece_text c.args.out.now.items

pub loop-piece-preserved : goal.loop-piece-preserved
loop-piece-preserved c =
    one_more piece_text c.args.pieces.now c.loop-piece.piece-index _ c.args.out.now.items c.loop-piece.out.items c.append_piece.new.out.items c.loop-piece-test.true (get_or_default c.args.pieces.now c.loop-piece.piece-index _ _ c.loop-piece-test.true) c.loop-piece.invariant c.in_ok-append_piece.ensures.ok

pub returns-in_err-append_piece-clause-front : goal.returns-in_err-append_piece-clause-front
returns-in_err-append_piece-clause-front c =
    front_kept c.args.out.now.items c.loop-piece.out.items c.append_piece.new.out.items (flat_map piece_text (take c.loop-piece.piece-index c.args.pieces.now)) c.loop-piece.invariant c.in_err-append_piece.ensures.err

pub returns-clause-ok : goal.returns-clause-ok
returns-clause-ok c = all_done piece_text c.args.pieces.now c.loop-piece.piece-index c.args.out.now.items c.loop-piece.out.items c.loop-piece-test.false c.loop-piece.invariant

pub returns-clause-front : goal.returns-clause-front
returns-clause-front c =
    front_kept c.args.out.now.items c.loop-piece.out.items c.loop-piece.out.items (flat_map piece_text (take c.loop-piece.piece-index c.args.pieces.now)) c.loop-piece.invariant refl
