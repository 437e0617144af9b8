use Rattle.tree_commands.proofs.Writing.{stands_there, version_stays}
use Rattle.tree_commands.proofs.write.write.Goals as goal

pub give_watches-requires : goal.give_watches-requires
give_watches-requires g c = record { stands = stands_there c.args.draft.now.tree c.set.new.self.tree c.args.path.now c.args.payload.now c.in_ok-version.ensures.tree }

pub finish_write-requires-clause-version : goal.finish_write-requires-clause-version
finish_write-requires-clause-version g c =
    version_stays c.args.draft.now.tree c.set.new.self.tree c.give_watches.new.draft.tree c.args.path.now c.args.payload.now c.args.watch.now c.in_ok-version.version c.in_ok-version.ensures.tree c.in_ok-give_watches.ensures.tree c.in_ok-version.ensures.version
