-- What a tree holds can be written, as long as what commands bring can be: also what their scripts compute.
use Rattle.std.proofs.Common.{◌≡◌, ◌⊎◌, inl, inr, ℕ, zero, suc, List, [], ◌∷◌, ◌++◌, refl, sym, ap, subst, Option, Some, None}
use Rattle.std.specs.Prelude.{IsTrue}
use Rattle.std.specs.List.{AllByRecursion, list_any}
use Rattle.std.specs.FinMap.{get, entries}
use Rattle.khepri_terms.specs.Terms.{NameText}
use Rattle.khepri_terms.specs.declared.rec.Field.{Field}
use Rattle.khepri_terms.specs.Bytes.{AreBytes}
use Rattle.khepri_terms.specs.Order.{path_eq}
use Rattle.khepri_terms.specs.Paths.{IsPath}
use Rattle.khepri_terms.specs.Records.{IsRec}
use Rattle.khepri_terms.proofs.Cases.{some_is}
use Rattle.khepri_types.specs.declared.limits.TheConstants.{MAX_BLOCK_NESTING, MAX_EXPRESSION_NESTING}
use Rattle.khepri_types.specs.declared.command.Command.{Command}
use Rattle.khepri_types.specs.declared.node.Node.{Node}
use Rattle.khepri_types.specs.declared.node.Payload.{Payload}
use Rattle.khepri_types.specs.declared.node.Payload.TheVariants.{Empty, Fields}
use Rattle.khepri_types.specs.declared.script.Statement.{Statement, out-Statement, roll-Statement}
use Rattle.khepri_types.specs.declared.script.Statement.TheOpen.{Statement-F}
use Rattle.khepri_types.specs.declared.script.Statement.TheViews.{out-roll-Statement}
use Rattle.khepri_types.specs.declared.value.Stop.{Stop}
use Rattle.khepri_types.specs.declared.value.Stop.TheVariants.{Abort, Spent, Refused}
use Rattle.khepri_types.specs.declared.watch.Watch.{Watch}
use Rattle.khepri_types.specs.declared.watch.Watching.{Watching}
use Rattle.khepri_types.specs.declared.watch.Watching.TheVariants.{Stay, Free, While}
use Rattle.khepri_types.specs.ConditionTexts.{IsCondition}
use Rattle.khepri_types.specs.Drop.{drop}
use Rattle.khepri_types.specs.Exec.{State, exec_command}
use Rattle.khepri_types.specs.ScriptTexts.{IsExpr, IsStatementLayer, IsBlock, IsScript}
use Rattle.khepri_types.specs.Settling.{settle}
use Rattle.khepri_types.specs.Spelled.{IsPayload, IsWatch, IsWatching, IsValue, IsCommand}
use Rattle.khepri_types.specs.Statements.{Run, Flow, Goes, Stops, script}
use Rattle.khepri_types.specs.Transactions.{or_else, first_unmet_among, unmet_among, written_nodes}
use Rattle.khepri_types.specs.Tree.{Tree}
use Rattle.khepri_types.specs.Values.{path, fields, bytes, emitted}
use Rattle.khepri_types.specs.Watching.{watch, set_watched, first_unmet}
use Rattle.khepri_types.proofs.After.{IsHeld, Runs, met}
use Rattle.khepri_types.proofs.Each.{each-set}
use Rattle.khepri_types.proofs.Everywhere.{everywhere-set, everywhere-watch, everywhere-drop, everywhere-settle}
use Rattle.khepri_types.proofs.Matching.{All-filter, each_stands}
use Rattle.khepri_types.proofs.Outputs.{All-append, All-weaker}
use Rattle.khepri_types.proofs.PathsWritten.{AllWritten, path_closed, root_written}
use Rattle.khepri_types.proofs.Payloads.{IsWritable, AllSpelled, spelled-set_watched, spelled-drop, spelled-settle, first-of}
use Rattle.khepri_types.proofs.Running.{Leaves, IsKept, Parts, IsPassed, script_keeps}
use Rattle.khepri_types.proofs.ScriptValues.{IsOperand, AreWritten, bytes_are, path_is, fields_are, emitted_is, assign_is, opening_is, value_is, matched_are}
use Rattle.khepri_types.proofs.Watched.{each-watch}

-- paths, payloads and watches of the tree can be written
pub record IsLegible (T : Tree) : Type 0 where
  pub payloads : AllSpelled T
  pub paths : AllWritten T

legible-set : (T : Tree) (p : List NameText) (x : Payload) (w : Watching) → IsPath p → IsPayload x → IsWatching w → IsLegible T → IsLegible (set_watched T p x w)
legible-set T p x w is-p is-x is-w h = record { payloads = spelled-set_watched T p x w is-x is-w h.payloads; paths = everywhere-set IsPath path_closed T p x w is-p h.paths }

legible-drop : (T : Tree) (paths : List (List NameText)) → IsLegible T → IsLegible (drop T paths)
legible-drop T paths h = record { payloads = spelled-drop T paths h.payloads; paths = everywhere-drop IsPath T paths h.paths }

legible-settle : (T : Tree) → IsLegible T → IsLegible (settle T)
legible-settle T h = record { payloads = spelled-settle T h.payloads; paths = everywhere-settle IsPath T h.paths }

-- the watches that are given
abbrev listed : Watching → List Watch
listed Stay = []
listed Free = []
listed (While watches) = watches

legible-watch : (T : Tree) (p : List NameText) (watches : List Watch) → AllByRecursion IsWatch watches → IsLegible T → IsLegible (watch T p (While watches))
legible-watch T p watches are h = record {
  payloads = each-watch IsWritable IsWritable T p (While watches) (record {
    kept = λ n h. h;
    free = λ n h. record { payload = h.payload; watches = tt };
    given = λ n ws e h. record { payload = h.payload; watches = subst (AllByRecursion IsWatch) (ap listed e) are };
  }) h.payloads;
  paths = everywhere-watch IsPath T p (While watches) h.paths;
}

-- ---- scripts

-- what a run has can be written
pub record IsWritten (r : Run) : Type 0 where
  pub registers : AreWritten r.registers
  pub tree : IsLegible r.scene.tree
  pub values : AllByRecursion IsValue r.values

-- the text of `abort` can be written
abbrev pub IsStopWritten : Stop → Type 0
IsStopWritten (Abort b) = AreBytes b
IsStopWritten Spent = Unit {0}
IsStopWritten (Refused why) = Unit {0}

-- a statement that can be written
abbrev IsStatement : Statement → Type 0
IsStatement s = (n : ℕ) × IsStatementLayer (IsBlock n) (out-Statement s)

statements : (n : ℕ) (b : List Statement) → IsBlock n b → AllByRecursion IsStatement b
statements zero b is = absurd is
statements (suc n) b is = All-weaker (λ s. IsStatementLayer (IsBlock n) (out-Statement s)) IsStatement (λ s h. (n, h)) b is

parts_of : (n : ℕ) (l : Statement-F Statement) → IsStatementLayer (IsBlock n) l → Parts IsStatement IsExpr IsCondition l
parts_of n (Statement-F.Let reg e) is = is.1
parts_of n (Statement-F.Put a b) is = is
parts_of n (Statement-F.Clear a) is = is
parts_of n (Statement-F.Del a) is = is
parts_of n (Statement-F.Hold a b c) is = is
parts_of n (Statement-F.Free a) is = is
parts_of n (Statement-F.Emit a) is = is
parts_of n (Statement-F.Abort a) is = is
parts_of n (Statement-F.If e a b) is = (is.0, statements n a is.1, statements n b is.2)
parts_of n (Statement-F.Each reg pattern body) is = statements n body is.2

passed : IsPassed IsStatement IsExpr IsCondition
passed = record { parts = λ l h. parts_of h.0 l (subst (IsStatementLayer (IsBlock h.0)) (out-roll-Statement l) h.1) }

kept : IsKept IsWritten IsWritten IsStopWritten IsExpr IsCondition IsOperand
kept = record {
  spends = λ r few k. record { registers = k.registers; tree = k.tree; values = k.values };
  begins = λ r k. k;
  comes = λ e r is k. value_is r.registers r.scene.tree k.registers k.tree.payloads MAX_EXPRESSION_NESTING e is;
  lists = λ parts r k. matched_are r.scene.tree parts k.tree.paths;
  assigns = λ reg v r g k. record { registers = assign_is reg v r.registers g k.registers; tree = k.tree; values = k.values };
  puts = λ p d r gp gd short k. record { registers = k.registers; tree = legible-set r.scene.tree (path p) (Fields (fields d)) Stay (path_is p gp) (fields_are d gd) tt k.tree; values = k.values };
  clears = λ p r g there k. record { registers = k.registers; tree = legible-set r.scene.tree (path p) Empty Stay (path_is p g) tt tt k.tree; values = k.values };
  drops = λ n p r k. record { registers = k.registers; tree = legible-drop r.scene.tree ((n ∷ p) ∷ []) k.tree; values = k.values };
  holds = λ p q c n r g is e few k.
      let w : Watch = record { target = path q; cond = c } in
      let is-w : IsWatch w = record { target = path_is q g; cond = is } in
      record { registers = k.registers; tree = legible-watch r.scene.tree p (n.watches ++ w ∷ []) (All-append IsWatch n.watches (w ∷ []) (k.tree.payloads p n e).watches (is-w, tt)) k.tree; values = k.values };
  frees = λ p r there k. record { registers = k.registers; tree = legible-watch r.scene.tree p [] tt k.tree; values = k.values };
  emits = λ v r g few k. record { registers = k.registers; tree = k.tree; values = All-append IsValue r.values (emitted v ∷ []) k.values (emitted_is v g, tt) };
  aborts = λ v g. bytes_are v g;
  spent = tt;
  refused = λ why. tt;
}

-- what a script leaves, and what it ends with, can be written
pub script_writes : (s : List Statement) (args : List Field) (T : Tree) → IsRec args → IsScript s → IsLegible T → Leaves IsWritten IsStopWritten (script s args [] T)
script_writes s args T is-args is h =
    script_keeps IsWritten IsWritten IsStopWritten IsExpr IsCondition IsOperand IsStatement kept passed s args [] T (statements MAX_BLOCK_NESTING s is.nested)
    (record { registers = opening_is args [] is-args root_written; tree = h; values = tt })

script_of : (S : State) (s : List Statement) → IsLegible S.tree → IsScript s ⊎ IsHeld S s → IsScript s
script_of S s h (inl is) = is
script_of S s h (inr held) = subst IsPayload held.3 (h.payloads held.0 held.1 held.2).payload

-- so of each script that a command runs
pub run_writes : (S : State) (c : Command) (args : List Field) (s : List Statement) → IsCommand c → Runs S c args s → IsLegible S.tree → (f : Flow) → script s args [] S.tree ≡ f → Leaves IsWritten IsStopWritten f
run_writes S c args s is may h f e = subst (Leaves IsWritten IsStopWritten) e (script_writes s args S.tree (may is).0 (script_of S s h (may is).1) h)

-- ---- commands

pub legible-after : (S : State) (c : Command) → IsCommand c → IsLegible S.tree → IsLegible (exec_command S c).1.tree
legible-after S c is h = met (λ y. IsLegible y.1.tree) S c (record {
  refuses = λ r not. h;
  breaks = λ p x w u may e. h;
  shows = λ p. h;
  lists = λ parts limit. h;
  counts = λ parts. h;
  sets = λ p x w may place fit. legible-settle (set_watched S.tree p x w) (legible-set S.tree p x w (may is).0 (may is).1 (may is).2 h);
  drops = λ paths apart fit. legible-settle (drop S.tree paths) (legible-drop S.tree paths h);
  runs = λ args s r may e fit. legible-settle r.scene.tree (run_writes S c args s is may h (Goes r) e).tree;
  stops = λ args s r stop may e. h;
  fails = λ args s r u may e un. h;
})

-- ---- a watch of a written node that isn't met can be written

of_nodes : (T : Tree) (nodes : List (List NameText × Node)) (u : Watch) → AllByRecursion (λ e. AllByRecursion IsWatch e.1.watches) nodes → first_unmet_among T nodes ≡ Some u → IsWatch u
of_nodes T [] u all e = absurd cc
of_nodes T (one ∷ nodes) u all e = elim (first_unmet T one.1.watches) as (λ o. first_unmet T one.1.watches ≡ o → or_else o (first_unmet_among T nodes) ≡ Some u → IsWatch u) [
  | None ↦ λ none later. of_nodes T nodes u all.1 later
  | Some w ↦ λ is here. subst IsWatch (some_is w u here) (first-of IsWatch T one.1.watches w all.0 is)
] refl e

pub unmet_among-spelled : (T : Tree) (written : List (List NameText)) (u : Watch) → AllSpelled T → unmet_among T written ≡ Some u → IsWatch u
unmet_among-spelled T written u all e =
    of_nodes T (written_nodes T written) u
    (All-filter (λ (e : List NameText × Node). AllByRecursion IsWatch e.1.watches) (λ e. list_any (path_eq e.0) written) (entries T)
    (All-weaker (λ (e : List NameText × Node). get T e.0 ≡ Some e.1) (λ (e : List NameText × Node). AllByRecursion IsWatch e.1.watches) (λ e at. (all e.0 e.1 at).watches) (entries T) (each_stands T))) e
