-- The start is sound.
use Rattle.std.proofs.Common.{◌≡◌, ℕ, ◌<◌, ◌==◌, cond, Bool, refl, sym, ap, arith, inl}
use Rattle.std.proofs.lemmas.Bool.{ne_eqb}
use Rattle.raft_spine.specs.Start.{Start, IsStart}
use Rattle.raft_spine.specs.Spine.{begin}
use Rattle.raft_spine.proofs.Sound.{Rooted, Sound}
use Rattle.raft_spine.proofs.Fronts.{whole}
use Rattle.raft_spine.proofs.Votes.{none≢some}

first_rooted : (b : Start) → IsStart b → Rooted b (λ t. 0) (λ t. b.log) b.term b.log
first_rooted b i = record {
  known = λ n h. inl (i.bounded n h);
  same = λ n h. refl;
  rising = i.rising;
  bounded = i.bounded;
  begun = whole b.log;
}

pub begin_sound : (b : Start) → IsStart b → Sound b (begin b)
begin_sound b i =
    let late : (t : ℕ) → b.term < t → cond (t == b.term) b.vote 0 ≡ 0 = λ (t : ℕ) (lt : b.term < t).
    ap (λ (c : Bool). cond c b.vote 0) (ne_eqb t b.term (λ e. (let r : ⊥ = omega arith in r))) in
    record {
      voted_past = λ j t lt. late t lt;
      voted_stood = λ j t lt nz. absurd (nz (late t lt));
      candidates = λ k t l e. absurd (none≢some refl e);
      candidate_log = λ k l e. absurd (none≢some refl e);
      elected = λ t led. absurd (led refl);
      own_log = λ k nz leads. absurd (nz (sym leads));
      logs = λ j. first_rooted b i;
      leader_logs = λ t led. absurd (led refl);
      stood_logs = λ k t l e. absurd (none≢some refl e);
      shares = λ j t a. absurd (omega arith);
      holder_has = λ j t n o a. absurd (omega arith);
      later_has = λ t u n lt led. absurd (led refl);
      voted_has = λ j t u n l lt nv e o a. absurd (omega arith);
    }
