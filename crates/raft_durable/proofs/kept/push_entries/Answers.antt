use Rattle.std.proofs.Common.{◌≡◌, ℕ, suc, ◌+◌, ◌-◌, ◌<◌, List, [], ◌∷◌, ◌++◌, length, map, drop, sym, ap, ◌∙◌, arith}
use Rattle.std.proofs.lemmas.List.{append-nil, drop_all}
use Rattle.raft_types.specs.declared.entry.LogEntry.{LogEntry}
use Rattle.raft_types.specs.Items.{number}
use Rattle.raft_durable.specs.Bytes.{item_bytes}
use Rattle.raft_durable.specs.Stores.{entry_of}
use Rattle.raft_durable.proofs.Pushing.{pushed_one}
use Rattle.raft_durable.proofs.kept.push_entries.Goals as goal

pub entries-init : goal.entries-init
entries-init c = λ snapshot.
    let base : c.args.log.now.base + 0 ≡ c.args.log.now.base = omega arith in
    ap (λ (m : ℕ). c.args.items.now.items ++ map (item_bytes snapshot) (number (suc m) c.args.log.now.entries)) base

pub entries-preserved : goal.entries-preserved
entries-preserved c = λ snapshot.
    let l = c.args.log.now in
    let done = c.entries.items.items in
    let lt : c.entries.i < length l.entries = omega (arith, c.entries-test.true, c.last-last.ensures.index, c.base-base.ensures.index) in
    let place : c.base-base.result.0 + c.entries.i + 1 - (l.base + 1) ≡ c.entries.i = omega (arith, c.base-base.ensures.index) in
    let is : c.in_ok-entry_item.field-0 ≡ item_bytes [] (entry_of l c.entries.i) = c.in_ok-entry_item.ensures ∙ ap (λ (m : ℕ). item_bytes [] (entry_of l m)) place in
    let pushed : c.push.new.self.items ≡ done ++ item_bytes [] (entry_of l c.entries.i) ∷ [] = c.in_ok-push.ensures.items ∙ ap (λ (y : List ℕ). done ++ y ∷ []) is in
    ap (λ (xs : List (List ℕ)). xs ++ map (item_bytes snapshot) (number (suc (l.base + (c.entries.i + 1))) (drop (c.entries.i + 1) l.entries))) pushed
    ∙ (sym (pushed_one l snapshot c.entries.i done lt) ∙ c.entries.invariant snapshot)

pub returns : goal.returns
returns c = λ snapshot.
    let l = c.args.log.now in
    let done = c.entries.items.items in
    let none : drop c.entries.i l.entries ≡ [] = drop_all c.entries.i l.entries (omega (arith, c.entries-test.false, c.last-last.ensures.index, c.base-base.ensures.index)) in
    sym (append-nil done)
    ∙ (sym (ap (λ (xs : List LogEntry). done ++ map (item_bytes snapshot) (number (suc (l.base + c.entries.i)) xs)) none) ∙ c.entries.invariant snapshot)
