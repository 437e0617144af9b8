-- What a command comes to.
use Rattle.std.specs.Prelude.{◌≡◌, ⊤, IsTrue}
use Rattle.khepri_types.specs.declared.reply.Reply.{Reply}
use Rattle.khepri_types.specs.Exec.{State, applied, refused}
use Rattle.khepri_types.specs.Settling.{stable}
use Rattle.khepri_types.specs.Tree.{Tree}
use Rattle.khepri_machine.specs.Following.{KeepsTargets}
use Rattle.khepri_machine.specs.declared.outcome.Outcome.{Outcome}
use Rattle.khepri_machine.specs.declared.outcome.Outcome.TheVariants.{Same, Changed}

-- the reply, and the state that follows
abbrev pub reply_and_next : State → Outcome → Reply × State
reply_and_next S (Same r) = refused S r
reply_and_next S (Changed r c paths) = (r, applied S c.tree)

-- a draft that takes this tree's place began from it, no node fails in it, and at paths other than these its nodes watch what they watch in this tree
abbrev pub IsOver : Tree → Outcome → Type 0
IsOver T (Same r) = ⊤
IsOver T (Changed r c paths) = (T ≡ c.base) × IsTrue (stable c.tree) × KeepsTargets T c.tree paths.items
