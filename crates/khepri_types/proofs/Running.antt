-- What holds of every run that a script comes through: a property that each change of a run keeps.
use Rattle.std.proofs.Common.{◌≡◌, ◌⊎◌, inl, inr, ℕ, ◌+◌, ◌<◌, ◌≤◌, ltb, Bool, true, false, cond, List, [], ◌∷◌, ◌++◌, length, map, refl, sym, ap, subst, Option, Some, None}
use Rattle.std.specs.Prelude.{IsTrue}
use Rattle.std.specs.List.{AllByRecursion}
use Rattle.std.specs.FinMap.{get}
use Rattle.std.proofs.lemmas.Bool.{ltb-true, ltb-false}
use Rattle.khepri_terms.specs.Terms.{NameText}
use Rattle.khepri_terms.specs.declared.rec.Field.{Field}
use Rattle.khepri_types.specs.declared.limits.TheConstants.{MAX_PATH_NAMES, MAX_UNITS, MAX_EMITTED, MAX_WATCHES}
use Rattle.khepri_types.specs.declared.condition.Condition.{Condition}
use Rattle.khepri_types.specs.declared.node.Node.{Node}
use Rattle.khepri_types.specs.declared.node.Payload.{Payload}
use Rattle.khepri_types.specs.declared.node.Payload.TheVariants as payload
use Rattle.khepri_types.specs.declared.pattern.PatternPart.{PatternPart}
use Rattle.khepri_types.specs.declared.register.Register.{Register}
use Rattle.khepri_types.specs.declared.script.Expr.{Expr}
use Rattle.khepri_types.specs.declared.script.Statement.{Statement}
use Rattle.khepri_types.specs.declared.script.Statement.TheFolds.{fold-roll-Statement, ind-Statement, map-Statement}
use Rattle.khepri_types.specs.declared.script.Statement.TheOpen.{Statement-F}
use Rattle.khepri_types.specs.declared.script.Statement.TheViews.{roll-Statement}
use Rattle.khepri_types.specs.declared.value.Operand.{Operand}
use Rattle.khepri_types.specs.declared.value.Operand.TheVariants as operand
use Rattle.khepri_types.specs.declared.value.Refusal.{Refusal}
use Rattle.khepri_types.specs.declared.value.Refusal.TheVariants.{Root, Deep, Absent, Full}
use Rattle.khepri_types.specs.declared.value.Stop.{Stop}
use Rattle.khepri_types.specs.declared.value.Stop.TheVariants.{Abort, Spent, Refused}
use Rattle.khepri_types.specs.declared.watch.Watch.{Watch}
use Rattle.khepri_types.specs.declared.watch.Watching.TheVariants.{While}
use Rattle.khepri_types.specs.Drop.{drop}
use Rattle.khepri_types.specs.Expressions.{Evaluation, Is, Refuses, value_of}
use Rattle.khepri_types.specs.Patterns.{matching}
use Rattle.khepri_types.specs.Registers.{assign}
use Rattle.khepri_types.specs.Scenes.{with_payload, without, with_watches}
use Rattle.khepri_types.specs.Statements.{Run, Flow, Goes, Stops, and_then, refuse, spend, on_value, given, in_turn, turn, turns, put, clear, del, hold_at, hold, free, emit, begun, layer_run, does, block, begin, script}
use Rattle.khepri_types.specs.Tree.{Tree, stands, set}
use Rattle.khepri_types.specs.Values.{bytes, path, fields, truth, emitted}
use Rattle.khepri_types.specs.Watching.{is_deep, watch}

-- what holds of the run where a script goes on, and of what stops it
abbrev pub Leaves : (Run → Type 0) → (Stop → Type 0) → Flow → Type 0
Leaves K E (Goes r) = K r
Leaves K E (Stops r stop) = E stop

-- what holds of a value that an expression comes to
abbrev pub Comes : (Operand → Type 0) → Evaluation → Type 0
Comes G (Is v) = G v
Comes G (Refuses why) = Unit {0}

-- K holds of a run between statements, and J once a unit was taken and before the change is made; E holds of what stops a script,
-- X of its expressions, C of its conditions, and G of its values
pub record IsKept (K J : Run → Type 0) (E : Stop → Type 0) (X : Expr → Type 0) (C : Condition → Type 0) (G : Operand → Type 0) : Type 0 where
  pub spends : (r : Run) → r.units < MAX_UNITS → K r → J (record r { units = r.units + 1 })
  pub begins : (r : Run) → J r → K r
  pub comes : (e : Expr) (r : Run) → X e → J r → Comes G (value_of e r.registers r.scene.tree)
  pub lists : (parts : List PatternPart) (r : Run) → J r → AllByRecursion (λ p. G (operand.Path p)) (matching parts r.scene.tree)
  pub assigns : (reg : Register) (v : Operand) (r : Run) → G v → J r → K (record r { registers = assign reg v r.registers })
  pub puts : (p d : Operand) (r : Run) → G p → G d → length (path p) ≤ MAX_PATH_NAMES → J r → K (record r { scene = with_payload r.scene (path p) (payload.Fields (fields d)) })
  pub clears : (p : Operand) (r : Run) → G p → IsTrue (stands r.scene.tree (path p)) → J r → K (record r { scene = with_payload r.scene (path p) payload.Empty })
  pub drops : (n : NameText) (p : List NameText) (r : Run) → J r → K (record r { scene = without r.scene (n ∷ p) })
  pub holds : (p : List NameText) (q : Operand) (c : Condition) (n : Node) (r : Run) → G q → C c → get r.scene.tree p ≡ Some n → length n.watches < MAX_WATCHES → J r
      → K (record r { scene = with_watches r.scene p (n.watches ++ record { target = path q; cond = c } ∷ []) })
  pub frees : (p : List NameText) (r : Run) → IsTrue (stands r.scene.tree p) → J r → K (record r { scene = with_watches r.scene p [] })
  pub emits : (v : Operand) (r : Run) → G v → length r.values < MAX_EMITTED → J r → K (record r { values = r.values ++ emitted v ∷ [] })
  pub aborts : (v : Operand) → G v → E (Abort (bytes v))
  pub spent : E Spent
  pub refused : (why : Refusal) → E (Refused why)

-- what is asked of the parts of a statement
abbrev pub Parts : (Statement → Type 0) → (Expr → Type 0) → (Condition → Type 0) → Statement-F Statement → Type 0
Parts H X C (Statement-F.Let reg e) = X e
Parts H X C (Statement-F.Put a b) = X a × X b
Parts H X C (Statement-F.Clear a) = X a
Parts H X C (Statement-F.Del a) = X a
Parts H X C (Statement-F.Hold a b c) = X a × X b × C c
Parts H X C (Statement-F.Free a) = X a
Parts H X C (Statement-F.Emit a) = X a
Parts H X C (Statement-F.Abort a) = X a
Parts H X C (Statement-F.If e a b) = X e × AllByRecursion H a × AllByRecursion H b
Parts H X C (Statement-F.Each reg pattern body) = AllByRecursion H body

-- what is asked of a statement is asked of its parts
pub record IsPassed (H : Statement → Type 0) (X : Expr → Type 0) (C : Condition → Type 0) : Type 0 where
  pub parts : (l : Statement-F Statement) → H (roll-Statement l) → Parts H X C l

choice : (L : Flow → Type 0) (b : Bool) (x y : Flow) → (b ≡ true → L x) → (b ≡ false → L y) → L (cond b x y)
choice L true x y f g = f refl
choice L false x y f g = g refl

module _ (K J : Run → Type 0) (E : Stop → Type 0) (X : Expr → Type 0) (C : Condition → Type 0) (G : Operand → Type 0) (H : Statement → Type 0) (kept : IsKept K J E X C G) (passed : IsPassed H X C) where
  abbrev L : Flow → Type 0
  L f = Leaves K E f

  abbrev Keeps : (Run → Flow) → Type 0
  Keeps f = (r : Run) → K r → L (f r)

  -- ---- one thing after another

  then_keeps : (f : Flow) (next : Run → Flow) → L f → Keeps next → L (and_then f next)
  then_keeps (Goes r) next h g = g r h
  then_keeps (Stops r stop) next h g = h

  in_turn_keeps : (fs : List (Run → Flow)) → AllByRecursion Keeps fs → Keeps (in_turn fs)
  in_turn_keeps [] all r k = k
  in_turn_keeps (f ∷ fs) all r k = then_keeps (f r) (in_turn fs) (all.0 r k) (in_turn_keeps fs all.1)

  -- a unit is taken, and then this
  unit_keeps : (next : Run → Flow) → ((r : Run) → J r → L (next r)) → (r : Run) → K r → L (and_then (spend r) next)
  unit_keeps next h r k =
      let spent : Run = record r { units = r.units + 1 } in
      choice (λ f. L (and_then f next)) (ltb r.units MAX_UNITS) (Goes spent) (Stops r Spent) (λ e. h spent (kept.spends r (ltb-true r.units MAX_UNITS e) k)) (λ _. kept.spent)

  come : (v : Evaluation) (r : Run) (next : Operand → Flow) → Comes G v → ((x : Operand) → G x → L (next x)) → L (on_value v r next)
  come (Is v) r next g h = h v g
  come (Refuses why) r next g h = kept.refused why

  given_keeps : (e : Expr) (r : Run) (next : Operand → Flow) → X e → J r → ((x : Operand) → G x → L (next x)) → L (given e r next)
  given_keeps e r next is j h = come (value_of e r.registers r.scene.tree) r next (kept.comes e r is j) h

  -- ---- what the statements do

  put_keeps : (p d : Operand) (r : Run) → G p → G d → J r → L (put (path p) (fields d) r)
  put_keeps p d r gp gd j =
      choice L (is_deep (path p)) (refuse Deep r) (Goes (record r { scene = with_payload r.scene (path p) (payload.Fields (fields d)) })) (λ _. kept.refused Deep)
      (λ e. kept.puts p d r gp gd (ltb-false MAX_PATH_NAMES (length (path p)) e) j)

  clear_keeps : (p : Operand) (r : Run) → G p → J r → L (clear (path p) r)
  clear_keeps p r g j =
      choice L (stands r.scene.tree (path p)) (Goes (record r { scene = with_payload r.scene (path p) payload.Empty })) (refuse Absent r) (λ e. kept.clears p r g e j) (λ _. kept.refused Absent)

  del_keeps : (p : List NameText) (r : Run) → J r → L (del p r)
  del_keeps [] r j = kept.refused Root
  del_keeps (n ∷ p) r j = kept.drops n p r j

  hold_at_keeps : (p : List NameText) (q : Operand) (c : Condition) (o : Option Node) (r : Run) → G q → C c → get r.scene.tree p ≡ o → J r → L (hold_at p (record { target = path q; cond = c }) o r)
  hold_at_keeps p q c None r g is e j = kept.refused Absent
  hold_at_keeps p q c (Some n) r g is e j =
      let w : Watch = record { target = path q; cond = c } in
      choice L (ltb (length n.watches) MAX_WATCHES) (Goes (record r { scene = with_watches r.scene p (n.watches ++ w ∷ []) })) (refuse Full r)
      (λ few. kept.holds p q c n r g is e (ltb-true (length n.watches) MAX_WATCHES few) j) (λ _. kept.refused Full)

  hold_keeps : (p : List NameText) (q : Operand) (c : Condition) (r : Run) → G q → C c → J r → L (hold p (record { target = path q; cond = c }) r)
  hold_keeps [] q c r g is j = kept.refused Root
  hold_keeps (n ∷ p) q c r g is j =
      let w : Watch = record { target = path q; cond = c } in
      choice L (is_deep (path q)) (refuse Deep r) (hold_at (n ∷ p) w (get r.scene.tree (n ∷ p)) r) (λ _. kept.refused Deep) (λ _. hold_at_keeps (n ∷ p) q c (get r.scene.tree (n ∷ p)) r g is refl j)

  free_keeps : (p : List NameText) (r : Run) → J r → L (free p r)
  free_keeps [] r j = kept.refused Root
  free_keeps (n ∷ p) r j =
      choice L (stands r.scene.tree (n ∷ p)) (Goes (record r { scene = with_watches r.scene (n ∷ p) [] })) (refuse Absent r) (λ e. kept.frees (n ∷ p) r e j) (λ _. kept.refused Absent)

  emit_keeps : (v : Operand) (r : Run) → G v → J r → L (emit (emitted v) r)
  emit_keeps v r g j =
      choice L (ltb (length r.values) MAX_EMITTED) (Goes (record r { values = r.values ++ emitted v ∷ [] })) (refuse Full r)
      (λ few. kept.emits v r g (ltb-true (length r.values) MAX_EMITTED few) j) (λ _. kept.refused Full)

  turn_keeps : (reg : Register) (body : List (Run → Flow)) (p : List NameText) → AllByRecursion Keeps body → G (operand.Path p) → Keeps (turn reg body p)
  turn_keeps reg body p all g r k =
      unit_keeps (λ r. in_turn body (record r { registers = assign reg (operand.Path p) r.registers })) (λ r j. in_turn_keeps body all (record r { registers = assign reg (operand.Path p) r.registers }) (kept.assigns reg (operand.Path p) r g j)) r k

  turns_keep : (reg : Register) (body : List (Run → Flow)) (paths : List (List NameText)) → AllByRecursion Keeps body → AllByRecursion (λ p. G (operand.Path p)) paths → Keeps (turns reg body paths)
  turns_keep reg body [] all gs r k = k
  turns_keep reg body (p ∷ paths) all gs r k = then_keeps (turn reg body p r) (turns reg body paths) (turn_keeps reg body p all gs.0 r k) (turns_keep reg body paths all gs.1)

  -- ---- statements

  -- what is shown of a statement
  abbrev Stays : Statement → Type 0
  Stays s = H s → Keeps (does s)

  abbrev Shown : Type 0
  Shown = (s : Statement) × Stays s

  abbrev bare : Statement-F Shown → Statement-F Statement
  bare y = map-Statement Shown Statement (λ e. e.0) y

  abbrev block_of : List Shown → List Statement
  block_of es = map (λ (e : Shown). e.0) es

  all_keep : (es : List Shown) → AllByRecursion H (block_of es) → AllByRecursion Keeps (map does (block_of es))
  all_keep [] all = tt
  all_keep (e ∷ es) all = (e.1 all.0, all_keep es all.1)

  begun_keeps : (y : Statement-F Shown) → Parts H X C (bare y) → (r : Run) → J r → L (begun (map-Statement Statement (Run → Flow) does (bare y)) r)
  begun_keeps (Statement-F.Let reg e) is r j = given_keeps e r (λ v. Goes (record r { registers = assign reg v r.registers })) is j (λ v g. kept.assigns reg v r g j)
  begun_keeps (Statement-F.Put a b) is r j =
      given_keeps a r (λ p. given b r (λ d. put (path p) (fields d) r)) is.0 j (λ p gp. given_keeps b r (λ d. put (path p) (fields d) r) is.1 j (λ d gd. put_keeps p d r gp gd j))
  begun_keeps (Statement-F.Clear a) is r j = given_keeps a r (λ p. clear (path p) r) is j (λ p g. clear_keeps p r g j)
  begun_keeps (Statement-F.Del a) is r j = given_keeps a r (λ p. del (path p) r) is j (λ p g. del_keeps (path p) r j)
  begun_keeps (Statement-F.Hold a b c) is r j =
      given_keeps a r (λ p. given b r (λ q. hold (path p) (record { target = path q; cond = c }) r)) is.0 j
      (λ p gp. given_keeps b r (λ q. hold (path p) (record { target = path q; cond = c }) r) is.1 j (λ q gq. hold_keeps (path p) q c r gq is.2 j))
  begun_keeps (Statement-F.Free a) is r j = given_keeps a r (λ p. free (path p) r) is j (λ p g. free_keeps (path p) r j)
  begun_keeps (Statement-F.Emit a) is r j = given_keeps a r (λ v. emit (emitted v) r) is j (λ v g. emit_keeps v r g j)
  begun_keeps (Statement-F.Abort a) is r j = given_keeps a r (λ t. Stops r (Abort (bytes t))) is j (λ t g. kept.aborts t g)
  begun_keeps (Statement-F.If e a b) is r j =
      let fa : List (Run → Flow) = map does (block_of a) in
      let fb : List (Run → Flow) = map does (block_of b) in
      given_keeps e r (λ t. cond (truth t) (in_turn fa r) (in_turn fb r)) is.0 j
      (λ t g. choice L (truth t) (in_turn fa r) (in_turn fb r) (λ _. in_turn_keeps fa (all_keep a is.1) r (kept.begins r j)) (λ _. in_turn_keeps fb (all_keep b is.2) r (kept.begins r j)))
  begun_keeps (Statement-F.Each reg pattern body) is r j =
      turns_keep reg (map does (block_of body)) (matching pattern r.scene.tree) (all_keep body is) (kept.lists pattern r j) r (kept.begins r j)

  rolled : (y : Statement-F Shown) → Stays (roll-Statement (bare y))
  rolled y is =
      let l : Statement-F (Run → Flow) = map-Statement Statement (Run → Flow) does (bare y) in
      subst (λ (f : Run → Flow). Keeps f) (sym (fold-roll-Statement (Run → Flow) layer_run (bare y))) (unit_keeps (begun l) (begun_keeps y (passed.parts (bare y) is)))

  statement_keeps : (s : Statement) → Stays s
  statement_keeps = ind-Statement Stays (λ x y is. subst (λ (z : Statement-F Statement). Stays (roll-Statement z)) is (rolled y))

  block_keeps : (s : List Statement) → AllByRecursion H s → AllByRecursion Keeps (map does s)
  block_keeps [] all = tt
  block_keeps (one ∷ s) all = (statement_keeps one all.0, block_keeps s all.1)

  -- it holds of the run at the end, where it held at the beginning
  pub script_keeps : (s : List Statement) (args : List Field) (at : List NameText) (T : Tree) → AllByRecursion H s → K (begin args at T) → Leaves K E (script s args at T)
  script_keeps s args at T all k = in_turn_keeps (map does s) (block_keeps s all) (begin args at T) k

-- ---- nothing asked of the script

abbrev pub Any : {A : Type 0} → A → Type 0
Any a = Unit {0}

pub all_any : {A : Type 0} (xs : List A) → AllByRecursion Any xs
all_any [] = tt
all_any (x ∷ xs) = (tt, all_any xs)

pub any_comes : (v : Evaluation) → Comes Any v
any_comes (Is v) = tt
any_comes (Refuses why) = tt

any_parts : (l : Statement-F Statement) → Parts Any Any Any l
any_parts (Statement-F.Let reg e) = tt
any_parts (Statement-F.Put a b) = (tt, tt)
any_parts (Statement-F.Clear a) = tt
any_parts (Statement-F.Del a) = tt
any_parts (Statement-F.Hold a b c) = (tt, tt, tt)
any_parts (Statement-F.Free a) = tt
any_parts (Statement-F.Emit a) = tt
any_parts (Statement-F.Abort a) = tt
any_parts (Statement-F.If e a b) = (tt, all_any a, all_any b)
any_parts (Statement-F.Each reg pattern body) = all_any body

pub any_passed : IsPassed Any Any Any
any_passed = record { parts = λ l h. any_parts l }

-- ---- a property of trees

-- it holds of what each change makes of a tree of which it holds
pub record IsKeptByChanges (P : Tree → Type 0) : Type 0 where
  pub sets : (T : Tree) (p : List NameText) (x : Payload) → (length p ≤ MAX_PATH_NAMES) ⊎ IsTrue (stands T p) → P T → P (set T p x)
  pub drops : (T : Tree) (n : NameText) (p : List NameText) → P T → P (drop T ((n ∷ p) ∷ []))
  pub gives : (T : Tree) (p : List NameText) (watches : List Watch) → P T → P (watch T p (While watches))

tree_kept : (P : Tree → Type 0) → IsKeptByChanges P → IsKept (λ r. P r.scene.tree) (λ r. P r.scene.tree) Any Any Any Any
tree_kept P by = record {
  spends = λ r few k. k;
  begins = λ r k. k;
  comes = λ e r is k. any_comes (value_of e r.registers r.scene.tree);
  lists = λ parts r k. all_any (matching parts r.scene.tree);
  assigns = λ reg v r g k. k;
  puts = λ p d r gp gd short k. by.sets r.scene.tree (path p) (payload.Fields (fields d)) (inl short) k;
  clears = λ p r g there k. by.sets r.scene.tree (path p) payload.Empty (inr there) k;
  drops = λ n p r k. by.drops r.scene.tree n p k;
  holds = λ p q c n r g is e few k. by.gives r.scene.tree p (n.watches ++ record { target = path q; cond = c } ∷ []) k;
  frees = λ p r there k. by.gives r.scene.tree p [] k;
  emits = λ v r g few k. k;
  aborts = λ v g. tt;
  spent = tt;
  refused = λ why. tt;
}

pub script_tree : (P : Tree → Type 0) → IsKeptByChanges P → (s : List Statement) (args : List Field) (at : List NameText) (T : Tree) (r : Run) → P T → script s args at T ≡ Goes r → P r.scene.tree
script_tree P by s args at T r h e =
    let K : Run → Type 0 = λ r. P r.scene.tree in
    subst (λ (f : Flow). Leaves K Any f) e (script_keeps K K Any Any Any Any Any (tree_kept P by) any_passed s args at T (all_any s) h)
