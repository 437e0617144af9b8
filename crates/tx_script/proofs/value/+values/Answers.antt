use Rattle.std.proofs.lemmas.Result.{err_from_is_err_and}
use Rattle.tx_script.proofs.Pairs.{second_refused}
use Rattle.tx_script.proofs.Refusals.{add_refused, sub_refused, cat_refused, child_refused, with_refused, compare_refused, all_refused, any_refused}
use Rattle.tx_script.proofs.value.+values.Goals as goal

pub pair-returns-in_err-y-clause-values : goal.pair-returns-in_err-y-clause-values
pair-returns-in_err-y-clause-values g t c =
    let p = err_from_is_err_and c.from_residual-in_err-y.result c.from_residual-in_err-y.ensures.1 in
    rw (p.1, p.2) (second_refused c.in_err-y.field-0.0 c.in_ok-x.x _ _ c.in_ok-x.ensures.value (rw c.in_ok-x.ensures.same at c.in_err-y.ensures.value))

pub value-returns-in_err-x-in-Add-clause-value : goal.value-returns-in_err-x-in-Add-clause-value
value-returns-in_err-x-in-Add-clause-value g t c =
    let p = err_from_is_err_and c.from_residual-in_err-x-in-Add.result c.from_residual-in_err-x-in-Add.ensures.1 in
    rw (p.1, p.2) (add_refused _ _ _ _ c.args.e.now _ _ c.in_err-x-in-Add.field-0.0 c.in-Add.is c.get.ensures c.get-in-Add.ensures c.in_err-x-in-Add.ensures.values)

pub value-returns-in_err-x-in-Sub-clause-value : goal.value-returns-in_err-x-in-Sub-clause-value
value-returns-in_err-x-in-Sub-clause-value g t c =
    let p = err_from_is_err_and c.from_residual-in_err-x-in-Sub.result c.from_residual-in_err-x-in-Sub.ensures.1 in
    rw (p.1, p.2) (sub_refused _ _ _ _ c.args.e.now _ _ c.in_err-x-in-Sub.field-0.0 c.in-Sub.is c.get-in-Sub.ensures c.get-in-Sub-2.ensures c.in_err-x-in-Sub.ensures.values)

pub value-returns-in_err-x-in-Cat-clause-value : goal.value-returns-in_err-x-in-Cat-clause-value
value-returns-in_err-x-in-Cat-clause-value g t c =
    let p = err_from_is_err_and c.from_residual-in_err-x-in-Cat.result c.from_residual-in_err-x-in-Cat.ensures.1 in
    rw (p.1, p.2) (cat_refused _ _ _ _ c.args.e.now _ _ c.in_err-x-in-Cat.field-0.0 c.in-Cat.is c.get-in-Cat.ensures c.get-in-Cat-2.ensures c.in_err-x-in-Cat.ensures.values)

pub value-returns-in_err-p-in-Child-clause-value : goal.value-returns-in_err-p-in-Child-clause-value
value-returns-in_err-p-in-Child-clause-value g t c =
    let p = err_from_is_err_and c.from_residual-in_err-p-in-Child.result c.from_residual-in_err-p-in-Child.ensures.1 in
    rw (p.1, p.2) (child_refused _ _ _ _ c.args.e.now _ _ c.in_err-p-in-Child.field-0.0 c.in-Child.is c.get-in-Child.ensures c.get-in-Child-2.ensures c.in_err-p-in-Child.ensures.values)

pub value-returns-in_err-d-in-With-clause-value : goal.value-returns-in_err-d-in-With-clause-value
value-returns-in_err-d-in-With-clause-value g t c =
    let p = err_from_is_err_and c.from_residual-in_err-d-in-With.result c.from_residual-in_err-d-in-With.ensures.1 in
    rw (p.1, p.2) (with_refused _ _ _ _ _ c.args.e.now _ _ c.in_err-d-in-With.field-0.0 c.in-With.is c.get-in-With.ensures c.get-in-With-2.ensures c.in_err-d-in-With.ensures.values)

pub value-returns-in_err-x-in-Compare-clause-value : goal.value-returns-in_err-x-in-Compare-clause-value
value-returns-in_err-x-in-Compare-clause-value g t c =
    let p = err_from_is_err_and c.from_residual-in_err-x-in-Compare.result c.from_residual-in_err-x-in-Compare.ensures.1 in
    rw (p.1, p.2) (compare_refused _ _ _ _ _ c.args.e.now _ _ c.in_err-x-in-Compare.field-0.0 c.in-Compare.is c.get-in-Compare.ensures c.get-in-Compare-2.ensures c.in_err-x-in-Compare.ensures.values)

pub value-returns-in_err-x-in-All-clause-value : goal.value-returns-in_err-x-in-All-clause-value
value-returns-in_err-x-in-All-clause-value g t c =
    let p = err_from_is_err_and c.from_residual-in_err-x-in-All.result c.from_residual-in_err-x-in-All.ensures.1 in
    rw (p.1, p.2) (all_refused _ _ _ _ c.args.e.now _ _ c.in_err-x-in-All.field-0.0 c.in-All.is c.get-in-All.ensures c.get-in-All-2.ensures c.in_err-x-in-All.ensures.values)

pub value-returns-in_err-x-in-Any-clause-value : goal.value-returns-in_err-x-in-Any-clause-value
value-returns-in_err-x-in-Any-clause-value g t c =
    let p = err_from_is_err_and c.from_residual-in_err-x-in-Any.result c.from_residual-in_err-x-in-Any.ensures.1 in
    rw (p.1, p.2) (any_refused _ _ _ _ c.args.e.now _ _ c.in_err-x-in-Any.field-0.0 c.in-Any.is c.get-in-Any.ensures c.get-in-Any-2.ensures c.in_err-x-in-Any.ensures.values)
