-- What stays so from state to state: the tree is a tree, and it is stable.
use Rattle.std.proofs.Common.{◌≡◌, false, List, [], ◌∷◌, take, refl, sym, ◌∙◌, Some}
use Rattle.std.specs.Prelude.{IsTrue}
use Rattle.std.specs.FinMap.{get}
use Rattle.khepri_terms.specs.Terms.{NameText}
use Rattle.khepri_types.specs.declared.node.Node.{Node}
use Rattle.khepri_types.specs.declared.command.Command.{Command}
use Rattle.khepri_types.specs.declared.out.EntryText.{EntryText}
use Rattle.khepri_types.specs.declared.out.EntryText.TheVariants as text
use Rattle.khepri_types.specs.declared.out.OutLine.{OutLine}
use Rattle.khepri_types.specs.Tree.{IsTree, opening_tree}
use Rattle.khepri_types.specs.Drop.{drop}
use Rattle.khepri_types.specs.Exec.{State, opening_state, exec_command, state_of}
use Rattle.khepri_types.specs.History.{empty_opening, history, run_from, StaysStable}
use Rattle.khepri_types.specs.Settling.{fails, stable}
use Rattle.khepri_types.specs.Watching.{set_watched}
use Rattle.khepri_types.proofs.After.{met}
use Rattle.khepri_types.proofs.Failing.{stable-all}
use Rattle.khepri_types.proofs.Rounds.{settle-ends, settle-tree}
use Rattle.khepri_types.specs.declared.watch.Watching.TheVariants.{While}
use Rattle.khepri_types.proofs.Running.{IsKeptByChanges, script_tree}
use Rattle.khepri_types.proofs.Standing.{get-opening, not_root, tree-set, tree-drop}
use Rattle.khepri_types.proofs.Watched.{tree-watch, tree-set_watched}

-- ---- a tree stays one

tree_by_changes : IsKeptByChanges IsTree
tree_by_changes = record {
  sets = λ T p x place tree. tree-set T p x tree;
  drops = λ T n p tree. tree-drop T ((n ∷ p) ∷ []) (not_root n p) tree;
  gives = λ T p watches tree. tree-watch T p (While watches) tree;
}

pub tree-after : (S : State) (c : Command) → IsTree S.tree → IsTree (exec_command S c).1.tree
tree-after S c tree = met (λ y. IsTree y.1.tree) S c (record {
  refuses = λ r is. tree;
  breaks = λ p x w u may is. tree;
  shows = λ p. tree;
  lists = λ parts limit. tree;
  counts = λ parts. tree;
  sets = λ p x w may place fit. settle-tree (set_watched S.tree p x w) (tree-set_watched S.tree p x w tree);
  drops = λ paths apart fit. settle-tree (drop S.tree paths) (tree-drop S.tree paths apart tree);
  runs = λ args s r may e fit. settle-tree r.scene.tree (script_tree IsTree tree_by_changes s args [] S.tree r tree e);
  stops = λ args s r stop may e. tree;
  fails = λ args s r u may e is. tree;
})

pub tree-run : (es : List EntryText) (S : State) → IsTree S.tree → IsTree (run_from S es).tree
tree-run [] S tree = tree
tree-run (text.Command c ∷ es) S tree = tree-run es (state_of S (text.Command c)) (tree-after S c tree)
tree-run (text.Fire s ∷ es) S tree = tree-run es (state_of S (text.Fire s)) tree
tree-run (text.Noop ∷ es) S tree = tree-run es (state_of S text.Noop) tree

-- ---- a stable tree stays stable

opening_firm : (q : List NameText) (n : Node) → get opening_tree q ≡ Some n → fails opening_tree q n ≡ false
opening_firm [] n e = refl
opening_firm (m ∷ q) n e = absurd (cc (sym e ∙ get-opening (m ∷ q)))

-- the first tree is stable
pub stable-opening : IsTrue (stable opening_tree)
stable-opening = stable-all opening_tree opening_firm

pub stable-after : (S : State) (c : Command) → IsTrue (stable S.tree) → IsTrue (stable (exec_command S c).1.tree)
stable-after S c h = met (λ y. IsTrue (stable y.1.tree)) S c (record {
  refuses = λ r is. h;
  breaks = λ p x w u may is. h;
  shows = λ p. h;
  lists = λ parts limit. h;
  counts = λ parts. h;
  sets = λ p x w may place fit. settle-ends (set_watched S.tree p x w);
  drops = λ paths apart fit. settle-ends (drop S.tree paths);
  runs = λ args s r may e fit. settle-ends r.scene.tree;
  stops = λ args s r stop may e. h;
  fails = λ args s r u may e is. h;
})

pub stable-entry : (S : State) (e : EntryText) → IsTrue (stable S.tree) → IsTrue (stable (state_of S e).tree)
stable-entry S (text.Command c) h = stable-after S c h
stable-entry S (text.Fire s) h = h
stable-entry S text.Noop h = h

pub stable-run : (es : List EntryText) (S : State) → IsTrue (stable S.tree) → IsTrue (stable (run_from S es).tree)
stable-run [] S h = h
stable-run (e ∷ es) S h = stable-run es (state_of S e) (stable-entry S e h)

-- after each front of the entries that an output tells, the tree is stable
pub stays-stable : (lines : List OutLine) → StaysStable empty_opening lines
stays-stable lines n = stable-run (take n (history lines)) opening_state stable-opening
