-- How high versions can be. A change of a tree raises a version by at most one. A command makes one change, or one with each unit of its
-- script, and then there are fewer rounds of settling than nodes.
use Rattle.std.proofs.Common.{◌≡◌, inl, inr, ℕ, suc, ◌+◌, ◌-◌, ◌*◌, ◌<◌, ◌≤◌, Bool, true, false, cond, List, [], ◌∷◌, ◌++◌, length, refl, sym, ap, subst, arith, Option, Some, None}
use Rattle.std.specs.Prelude.{IsTrue}
use Rattle.std.specs.FinMap.{get, len}
use Rattle.khepri_terms.specs.Terms.{NameText}
use Rattle.khepri_terms.specs.declared.rec.Field.{Field}
use Rattle.khepri_types.specs.declared.limits.TheConstants.{MAX_UNITS, MAX_VERSION_RISE}
use Rattle.khepri_types.specs.declared.node.Node.{Node}
use Rattle.khepri_types.specs.declared.node.Payload.{Payload}
use Rattle.khepri_types.specs.declared.node.Payload.TheVariants.{Empty, Fields}
use Rattle.khepri_types.specs.declared.script.Statement.{Statement}
use Rattle.khepri_types.specs.declared.watch.Watch.{Watch}
use Rattle.khepri_types.specs.declared.watch.Watching.{Watching}
use Rattle.khepri_types.specs.declared.watch.Watching.TheVariants.{Stay, While}
use Rattle.khepri_types.specs.declared.command.Command.{Command}
use Rattle.khepri_types.specs.declared.out.EntryText.{EntryText}
use Rattle.khepri_types.specs.declared.out.EntryText.TheVariants as text
use Rattle.khepri_types.specs.Tree.{Tree, IsTree, same_payload, raised, fresh, written, raised_children, end_node, way_node, set}
use Rattle.khepri_types.specs.Drop.{drop}
use Rattle.khepri_types.specs.Exec.{State, opening_state, state_of, exec_command}
use Rattle.khepri_types.specs.History.{run_from}
use Rattle.khepri_types.specs.Patterns.{matching}
use Rattle.khepri_types.specs.Settling.{stable, failing, settle}
use Rattle.khepri_types.specs.Sizes.{fits}
use Rattle.khepri_types.specs.Statements.{Run, Flow, Goes, script}
use Rattle.khepri_types.specs.Values.{path, fields}
use Rattle.khepri_types.specs.Watching.{watch, set_watched}
use Rattle.khepri_types.proofs.After.{IsPlace, met, fits-after}
use Rattle.khepri_types.proofs.Dropping.{len-drop}
use Rattle.khepri_types.proofs.Each.{Each, OfOld, each-set, each-drop, each-opening}
use Rattle.khepri_types.proofs.Fitting.{fits-opening, few_nodes}
use Rattle.khepri_types.proofs.Rounds.{next, next-less, settle-keeps}
use Rattle.khepri_types.proofs.Running.{Leaves, Any, all_any, any_comes, any_passed, IsKept, script_keeps}
use Rattle.khepri_types.proofs.Standing.{not_root, tree-opening, tree-set, tree-drop}
use Rattle.khepri_types.proofs.Staying.{tree-after}
use Rattle.khepri_types.proofs.Watched.{each-watch, tree-watch, len-watch, len-set_watched, len-set_there}

-- both versions of a node are from 1 to m
pub record IsWithin (m : ℕ) (n : Node) : Type 0 where
  pub pv_low : 1 ≤ n.pv
  pub pv_high : n.pv ≤ m
  pub cv_low : 1 ≤ n.cv
  pub cv_high : n.cv ≤ m

-- so each node of a tree
abbrev pub AllWithin : ℕ → Tree → Type 0
AllWithin m T = Each (IsWithin m) T

raised-low : (n : ℕ) → 1 ≤ raised n
raised-low n = omega arith

raised-high : (n bound : ℕ) → n ≤ bound → raised n ≤ bound + 1
raised-high n bound le = omega arith

-- ---- one node

more-within : (m k : ℕ) (n : Node) → m ≤ k → IsWithin m n → IsWithin k n
more-within m k n le h = record { pv_low = h.pv_low; pv_high = omega (arith, le, h.pv_high); cv_low = h.cv_low; cv_high = omega (arith, le, h.cv_high) }

fresh-within : (m : ℕ) (x : Payload) → 1 ≤ m → IsWithin m (fresh x)
fresh-within m x low = record { pv_low = omega arith; pv_high = omega (arith, low); cv_low = omega arith; cv_high = omega (arith, low) }

written-within : (m : ℕ) (n : Node) (x : Payload) → IsWithin m n → IsWithin (m + 1) (written n x)
written-within m n x h = record {
  pv_low = elim (same_payload x n.payload) as (λ b. 1 ≤ cond b n.pv (raised n.pv)) [ true ↦ h.pv_low | false ↦ raised-low n.pv ];
  pv_high = elim (same_payload x n.payload) as (λ b. cond b n.pv (raised n.pv) ≤ m + 1) [ true ↦ omega (arith, h.pv_high) | false ↦ raised-high n.pv m h.pv_high ];
  cv_low = h.cv_low;
  cv_high = omega (arith, h.cv_high);
}

raised-within : (m : ℕ) (n : Node) → IsWithin m n → IsWithin (m + 1) (raised_children n)
raised-within m n h = record { pv_low = h.pv_low; pv_high = omega (arith, h.pv_high); cv_low = raised-low n.cv; cv_high = raised-high n.cv m h.cv_high }

-- ---- a payload is set

end-within : (m : ℕ) (x : Payload) (o : Option Node) → OfOld (IsWithin m) o → IsWithin (m + 1) (end_node o x)
end-within m x None h = fresh-within (m + 1) x (omega arith)
end-within m x (Some n) h = written-within m n x (h n refl)

way-within : (m : ℕ) (o : Option Node) (below : Bool) → OfOld (IsWithin m) o → IsWithin (m + 1) (way_node o below)
way-within m None below h = fresh-within (m + 1) Empty (omega arith)
way-within m (Some n) true h = more-within m (m + 1) n (omega arith) (h n refl)
way-within m (Some n) false h = raised-within m n (h n refl)

within-set : (m : ℕ) (T : Tree) (p : List NameText) (x : Payload) → AllWithin m T → AllWithin (m + 1) (set T p x)
within-set m T p x all = each-set (IsWithin m) (IsWithin (m + 1)) T p x (record {
  elsewhere = λ n h. more-within m (m + 1) n (omega arith) h;
  at_path = λ o h. end-within m x o h;
  on_the_way = λ o below h. way-within m o below h;
}) all

-- the payload version of the node where a payload is set
pub end-high : (m : ℕ) (T : Tree) (p : List NameText) (x : Payload) → AllWithin m T → (end_node (get T p) x).pv ≤ m + 1
end-high m T p x all = (end-within m x (get T p) (all p)).pv_high

-- watches change no version
within-watch : (m : ℕ) (T : Tree) (p : List NameText) (w : Watching) → AllWithin m T → AllWithin m (watch T p w)
within-watch m T p w all = each-watch (IsWithin m) (IsWithin m) T p w (record {
  kept = λ n h. h;
  free = λ n h. record { pv_low = h.pv_low; pv_high = h.pv_high; cv_low = h.cv_low; cv_high = h.cv_high };
  given = λ n watches e h. record { pv_low = h.pv_low; pv_high = h.pv_high; cv_low = h.cv_low; cv_high = h.cv_high };
}) all

-- ---- nodes go

within-drop : (m : ℕ) (T : Tree) (paths : List (List NameText)) → AllWithin m T → AllWithin (m + 1) (drop T paths)
within-drop m T paths all = each-drop (IsWithin m) (IsWithin (m + 1)) T paths (λ n h. raised-within m n h) (λ n h. more-within m (m + 1) n (omega arith) h) all

pub within-more : (m k : ℕ) (T : Tree) → m ≤ k → AllWithin m T → AllWithin k T
within-more m k T le all q n e = more-within m k n le (all q n e)

-- what is left of l nodes, each round having raised a version by at most one and taken a node away
record Remains (m l : ℕ) (U : Tree) : Type 0 where
  few : len U ≤ l
  within : AllWithin (m + (l - len U)) U

remains-next : (m l : ℕ) (U : Tree) → stable U ≡ false → Remains m l U → Remains m l (next U)
remains-next m l U e h =
    let less : len (next U) < len U = next-less U e in
    let few : len U ≤ l = h.few in
    record {
      few = omega arith;
      within = within-more (m + (l - len U) + 1) (m + (l - len (next U))) (next U) (omega arith) (within-drop (m + (l - len U)) U (failing U) h.within);
    }

within-settle : (m : ℕ) (T : Tree) → AllWithin m T → AllWithin (m + len T) (settle T)
within-settle m T all =
    let from : Remains m (len T) T = record { few = omega arith; within = within-more m (m + (len T - len T)) T (omega arith) all } in
    let end : Remains m (len T) (settle T) = settle-keeps (Remains m (len T)) (record { stays = remains-next m (len T) }) T from in
    within-more (m + (len T - len (settle T))) (m + len T) (settle T) (omega arith) end.within

-- ---- scripts

-- a run of a script over a tree of l nodes whose versions were at most m, between statements
pub record IsCounted (m l : ℕ) (r : Run) : Type 0 where
  pub units : r.units ≤ MAX_UNITS
  pub tree : IsTree r.scene.tree
  pub within : AllWithin (m + r.units) r.scene.tree
  pub few : len r.scene.tree ≤ l + 33 * r.units

-- and with one unit more than changes
record HasUnit (m l : ℕ) (r : Run) : Type 0 where
  before : ℕ
  taken : r.units ≡ before + 1
  units : r.units ≤ MAX_UNITS
  tree : IsTree r.scene.tree
  within : AllWithin (m + before) r.scene.tree
  few : len r.scene.tree ≤ l + 33 * before

module _ (m l : ℕ) where
  -- a changed tree with a version raised by at most one and at most 33 nodes more
  changed : (r : Run) (U : Tree) (h : HasUnit m l r) → IsTree U → AllWithin (m + h.before + 1) U → len U ≤ len r.scene.tree + 33 → (s : Run) → s.units ≡ r.units → s.scene.tree ≡ U → IsCounted m l s
  changed r U h tree within more s same is = record {
    units = omega (arith, same, h.units);
    tree = subst IsTree (sym is) tree;
    within = within-more (m + h.before + 1) (m + s.units) s.scene.tree (omega (arith, same, h.taken)) (subst (AllWithin (m + h.before + 1)) (sym is) within);
    few = omega (arith, ap len is, same, h.taken, h.few, more);
  }

  same : (r : Run) → HasUnit m l r → (s : Run) → s.units ≡ r.units → s.scene.tree ≡ r.scene.tree → IsCounted m l s
  same r h s units is = changed r r.scene.tree h h.tree (within-more (m + h.before) (m + h.before + 1) r.scene.tree (omega arith) h.within) (omega arith) s units is

  counted : IsKept (IsCounted m l) (HasUnit m l) Any Any Any Any
  counted = record {
    spends = λ r few k. record { before = r.units; taken = refl; units = omega (arith, few); tree = k.tree; within = k.within; few = k.few };
    begins = λ r h. same r h r refl refl;
    comes = λ e r is h. any_comes _;
    lists = λ parts r h. all_any (matching parts r.scene.tree);
    assigns = λ reg v r g h. same r h _ refl refl;
    puts = λ p d r gp gd short h.
        let T = r.scene.tree in
        changed r (set T (path p) (Fields (fields d))) h (tree-set T (path p) (Fields (fields d)) h.tree) (within-set (m + h.before) T (path p) (Fields (fields d)) h.within) (omega (arith, len-set_watched T (path p) (Fields (fields d)) Stay, short)) _ refl refl;
    clears = λ p r g there h.
        let T = r.scene.tree in
        changed r (set T (path p) Empty) h (tree-set T (path p) Empty h.tree) (within-set (m + h.before) T (path p) Empty h.within) (omega (arith, len-set_there T (path p) Empty Stay h.tree there)) _ refl refl;
    drops = λ n p r h.
        let T = r.scene.tree in
        changed r (drop T ((n ∷ p) ∷ [])) h (tree-drop T ((n ∷ p) ∷ []) (not_root n p) h.tree) (within-drop (m + h.before) T ((n ∷ p) ∷ []) h.within) (omega (arith, len-drop T ((n ∷ p) ∷ []))) _ refl refl;
    holds = λ p q c n r g is e few h.
        let T = r.scene.tree in
        let w : Watching = While (n.watches ++ record { target = path q; cond = c } ∷ []) in
        changed r (watch T p w) h (tree-watch T p w h.tree) (within-more (m + h.before) (m + h.before + 1) (watch T p w) (omega arith) (within-watch (m + h.before) T p w h.within)) (omega (arith, len-watch T p w)) _ refl refl;
    frees = λ p r there h.
        let T = r.scene.tree in
        let w : Watching = While [] in
        changed r (watch T p w) h (tree-watch T p w h.tree) (within-more (m + h.before) (m + h.before + 1) (watch T p w) (omega arith) (within-watch (m + h.before) T p w h.within)) (omega (arith, len-watch T p w)) _ refl refl;
    emits = λ v r g few h. same r h _ refl refl;
    aborts = λ v g. tt;
    spent = tt;
    refused = λ why. tt;
  }

-- the run at the end of a script
pub counted-script : (m : ℕ) (s : List Statement) (args : List Field) (at : List NameText) (T : Tree) (r : Run) → IsTree T → AllWithin m T → script s args at T ≡ Goes r → IsCounted m (len T) r
counted-script m s args at T r tree within e =
    subst (λ (f : Flow). Leaves (IsCounted m (len T)) Any f) e
    (script_keeps (IsCounted m (len T)) (HasUnit m (len T)) Any Any Any Any Any (counted m (len T)) any_passed s args at T (all_any s) (record {
      units = omega arith;
      tree = tree;
      within = within-more m (m + 0) T (omega arith) within;
      few = omega arith;
    }))

-- ---- entries

-- a node that is written makes at most one node for each name of a path, and one for the root
pub few_made : (S : State) (p : List NameText) (x : Payload) (w : Watching) → IsTree S.tree → IsPlace S p → len (set_watched S.tree p x w) ≤ len S.tree + 33
few_made S p x w tree (inl le) = omega (arith, len-set_watched S.tree p x w, le)
few_made S p x w tree (inr there) = omega (arith, len-set_there S.tree p x w tree there)

-- a command raises a version by at most so much
pub within-after : (m : ℕ) (S : State) (c : Command) → IsTree S.tree → IsTrue (fits S.tree) → AllWithin m S.tree → AllWithin (m + MAX_VERSION_RISE) (exec_command S c).1.tree
within-after m S c tree fit all =
    let few = few_nodes S.tree fit in
    let kept : AllWithin (m + MAX_VERSION_RISE) S.tree = within-more m (m + MAX_VERSION_RISE) S.tree (omega arith) all in
    met (λ y. AllWithin (m + MAX_VERSION_RISE) y.1.tree) S c (record {
      refuses = λ r is. kept;
      breaks = λ p x w u may is. kept;
      shows = λ p. kept;
      lists = λ parts limit. kept;
      counts = λ parts. kept;
      sets = λ p x w may place fit.
          let U = set_watched S.tree p x w in
          within-more (m + 1 + len U) (m + MAX_VERSION_RISE) (settle U) (omega (arith, few, few_made S p x w tree place)) (within-settle (m + 1) U (within-watch (m + 1) (set S.tree p x) p w (within-set m S.tree p x all)));
      drops = λ paths apart fit.
          let U = drop S.tree paths in
          within-more (m + 1 + len U) (m + MAX_VERSION_RISE) (settle U) (omega (arith, few, len-drop S.tree paths)) (within-settle (m + 1) U (within-drop m S.tree paths all));
      runs = λ args s r may e fit.
          let k = counted-script m s args [] S.tree r tree all e in
          within-more (m + r.units + len r.scene.tree) (m + MAX_VERSION_RISE) (settle r.scene.tree) (omega (arith, few, k.units, k.few)) (within-settle (m + r.units) r.scene.tree k.within);
      stops = λ args s r stop may e. kept;
      fails = λ args s r u may e is. kept;
    })

pub within-run : (es : List EntryText) (S : State) (m : ℕ) → IsTree S.tree → IsTrue (fits S.tree) → AllWithin m S.tree → AllWithin (m + MAX_VERSION_RISE * length es) (run_from S es).tree
within-run [] S m tree fit all = within-more m (m + MAX_VERSION_RISE * 0) S.tree (omega arith) all
within-run (text.Command c ∷ es) S m tree fit all =
    let S1 = state_of S (text.Command c) in
    within-more ((m + MAX_VERSION_RISE) + MAX_VERSION_RISE * length es) (m + MAX_VERSION_RISE * suc (length es)) (run_from S1 es).tree (omega arith)
    (within-run es S1 (m + MAX_VERSION_RISE) (tree-after S c tree) (fits-after S c fit) (within-after m S c tree fit all))
within-run (text.Fire s ∷ es) S m tree fit all =
    let S1 = state_of S (text.Fire s) in
    within-more (m + MAX_VERSION_RISE * length es) (m + MAX_VERSION_RISE * suc (length es)) (run_from S1 es).tree (omega arith) (within-run es S1 m tree fit all)
within-run (text.Noop ∷ es) S m tree fit all =
    let S1 = state_of S text.Noop in
    within-more (m + MAX_VERSION_RISE * length es) (m + MAX_VERSION_RISE * suc (length es)) (run_from S1 es).tree (omega arith) (within-run es S1 m tree fit all)

opening-within : AllWithin 1 opening_state.tree
opening-within = each-opening (IsWithin 1) (fresh-within 1 Empty (omega arith))

-- the versions after entries from the opening on
pub within-history : (es : List EntryText) → AllWithin (1 + MAX_VERSION_RISE * length es) (run_from opening_state es).tree
within-history es = within-run es opening_state 1 tree-opening fits-opening opening-within
