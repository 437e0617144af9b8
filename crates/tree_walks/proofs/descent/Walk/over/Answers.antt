use Rattle.std.proofs.Common.{List, sym, subst, arith}
use Rattle.tree_overlay.specs.Over.{IsShallow}
use Rattle.tree_walks.specs.declared.descent.Turn.{Turn}
use Rattle.tree_walks.specs.Turns.{Leads}
use Rattle.tree_walks.proofs.descent.Walk.over.Goals as goal

pub invariant_of-result : goal.invariant_of-result
invariant_of-result c = (
  c.root.ensures.nest,
  subst IsShallow (sym c.root.ensures.tree) c.root.ensures.shallow,
  subst (λ (way : List Turn). Leads c.root.result.now way) (sym c.in_ok-with_capacity.ensures.items) tt,
  omega (arith, c.in_ok-with_capacity.ensures.capacity),
  λ e. c.in_ok-with_capacity.ensures.items,
)
