-- Every list of moves keeps the spine sound.
use Rattle.std.proofs.Common.{◌≡◌, ◌≤◌, List, [], ◌∷◌, ◌++◌, refl, sym, ap, ◌∙◌, subst}
use Rattle.raft_spine.specs.Start.{Start}
use Rattle.raft_spine.specs.Spine.{Spine, begin}
use Rattle.raft_spine.specs.Moves.{Move, Raise, Stand, Grant, Lead, Put, Adopt, Agree, Can, moved, CanAll, moved_all}
use Rattle.raft_spine.specs.Laws.{IsReached}
use Rattle.raft_spine.proofs.Sound.{Sound}
use Rattle.raft_spine.proofs.Begin.{begin_sound}
use Rattle.raft_spine.proofs.Raise.{raise_sound}
use Rattle.raft_spine.proofs.Stand.{stand_sound}
use Rattle.raft_spine.proofs.Grant.{grant_sound}
use Rattle.raft_spine.proofs.Lead.{lead_sound}
use Rattle.raft_spine.proofs.Put.{put_sound}
use Rattle.raft_spine.proofs.Adopt.{adopt_sound}
use Rattle.raft_spine.proofs.Agree.{agree_sound}

pub move_sound : (b : Start) → b.base_term ≤ b.term → (s : Spine) → Sound b s → (m : Move) → Can b s m → Sound b (moved m s)
move_sound b low s h (Raise k t) c = raise_sound b s h k t c.above
move_sound b low s h (Stand k) c = stand_sound b s h k c
move_sound b low s h (Grant j k) c = grant_sound b s h low j k c
move_sound b low s h (Lead k) c = lead_sound b s h k c
move_sound b low s h (Put k e) c = put_sound b s h k e c
move_sound b low s h (Adopt k n) c = adopt_sound b s h k n c
move_sound b low s h (Agree k n) c = agree_sound b s h k n c

pub moves_sound : (b : Start) → b.base_term ≤ b.term → (s : Spine) → Sound b s → (ms : List Move) → CanAll b s ms → Sound b (moved_all ms s)
moves_sound b low s h [] c = h
moves_sound b low s h (m ∷ ms) c = moves_sound b low (moved m s) (move_sound b low s h m c.0) ms c.1

-- what moves reach is sound
pub reached_sound : (b : Start) (s : Spine) → IsReached b s → Sound b s
reached_sound b s r = subst (Sound b) r.is (moves_sound b r.start.low (begin b) (begin_sound b r.start) r.moves r.can)

pub can_both : (b : Start) (s : Spine) (ms ns : List Move) → CanAll b s ms → CanAll b (moved_all ms s) ns → CanAll b s (ms ++ ns)
can_both b s [] ns c d = d
can_both b s (m ∷ ms) ns c d = (c.0, can_both b (moved m s) ms ns c.1 d)

pub moved_both : (s : Spine) (ms ns : List Move) → moved_all (ms ++ ns) s ≡ moved_all ns (moved_all ms s)
moved_both s [] ns = refl
moved_both s (m ∷ ms) ns = moved_both (moved m s) ms ns

-- what moves reach from a reached spine is reached
pub reached_more : (b : Start) (s : Spine) → IsReached b s → (ms : List Move) → CanAll b s ms → IsReached b (moved_all ms s)
reached_more b s r ms can = record {
  start = r.start;
  moves = r.moves ++ ms;
  can = can_both b (begin b) r.moves ms r.can (subst (λ (x : Spine). CanAll b x ms) (sym r.is) can);
  is = moved_both (begin b) r.moves ms ∙ ap (moved_all ms) r.is;
}
