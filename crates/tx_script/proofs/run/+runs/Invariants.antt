-- What is left to run comes to what all comes to, on the same tree.
use Rattle.std.proofs.Common.{◌≡◌, drop, map}
use Rattle.khepri_types.specs.Statements.{turns, does, block}
use Rattle.tx_script.specs.Answers.{run_of}
use Rattle.tx_script.proofs.run.+runs.Given as goal

abbrev pub invariant-block-loop-one : goal.invariant-block-loop-one
invariant-block-loop-one g l = record {
  rest : block (drop l.one-index l.statements) (run_of l.machine (g.T.ScriptTree.scene l.tree)) ≡ block l.statements (run_of l.fn.machine (g.T.ScriptTree.scene l.fn.tree));
  over : g.T.ScriptTree.over l.tree ≡ g.T.ScriptTree.over l.fn.tree;
}

abbrev pub invariant-turns-loop-at : goal.invariant-turns-loop-at
invariant-turns-loop-at g l = record {
  rest : turns l.reg (map does l.body) (drop l.at-index l.paths) (run_of l.machine (g.T.ScriptTree.scene l.tree)) ≡ turns l.reg (map does l.body) l.paths (run_of l.fn.machine (g.T.ScriptTree.scene l.fn.tree));
  over : g.T.ScriptTree.over l.tree ≡ g.T.ScriptTree.over l.fn.tree;
}
