use Rattle.std.specs.List.Sorted.{IsStrictlySortedBy}
use Rattle.khepri_terms.specs.Order.{path_cmp}
use Rattle.worklist_laws.specs.Links.{linked_to}
use Rattle.worklist_laws.specs.Candidates.{IsWithin, IsEnough, ListsAll}
use Rattle.worklist_laws.proofs.Indexing.{index-lists}
use Rattle.worklist_laws.proofs.Linking.{holds-lists}
use Rattle.keep_while.specs.Costs.{IsFirst, OnlyAsks}
use Rattle.keep_while.specs.Gathering.{asked, Asks, both}
use Rattle.keep_while.proofs.Looking.{first-enough, touched-out, both-ok, both-on, at-on}
use Rattle.keep_while.proofs.Paying.{first-asked, first-few}
use Rattle.keep_while.proofs.first.first.Goals as goal

pub look_at_all-requires : goal.look_at_all-requires
look_at_all-requires g c = record {
  none = c.requires.none;
  out = c.requires.out;
  bare = (c.new-tests.ensures.empty, c.new-changed.ensures.empty);
}

pub returns-clause-enough : goal.returns-clause-enough
returns-clause-enough g c =
    let d = c.args.draft.now in
    let of = linked_to c.args.watchers.now in
    let written = linked_to c.look_at_all.new.written in
    let left = c.look_at_all.new.out.left.keys in
    let gone = c.look_at_all.new.out.gone.keys in
    let looked = c.in_ok-look_at_all.ensures in
    let lists = index-lists d.base of (holds-lists d.base c.args.watchers.now c.requires.index) in
    both-ok c.watching.result (λ set. IsWithin c.look_at_all.new.tests.keys set.keys) (λ set. Asks (asked left gone of written) c.look_at_all.new.changed.keys set.keys) (λ set. IsEnough d.tree set.keys)
    (λ set stays asks. (first-enough d.base d.tree of written d.touched c.look_at_all.new.tests.keys c.look_at_all.new.changed.keys left gone set.keys c.requires.settled lists looked.covered looked.looks looked.left looked.gone stays asks).0)
    c.watching.ensures.stays c.watching.ensures.asks

pub returns-clause-lists : goal.returns-clause-lists
returns-clause-lists g c =
    let d = c.args.draft.now in
    let of = linked_to c.args.watchers.now in
    let written = linked_to c.look_at_all.new.written in
    let left = c.look_at_all.new.out.left.keys in
    let gone = c.look_at_all.new.out.gone.keys in
    let looked = c.in_ok-look_at_all.ensures in
    let lists = index-lists d.base of (holds-lists d.base c.args.watchers.now c.requires.index) in
    both-on c.watching.result (λ set. IsWithin c.look_at_all.new.tests.keys set.keys) (λ set. Asks (asked left gone of written) c.look_at_all.new.changed.keys set.keys) (ListsAll d.tree (both d.touched of written))
    (λ set stays asks. (first-enough d.base d.tree of written d.touched c.look_at_all.new.tests.keys c.look_at_all.new.changed.keys left gone set.keys c.requires.settled lists looked.covered looked.looks looked.left looked.gone stays asks).1)
    c.watching.ensures.stays c.watching.ensures.asks

pub returns-clause-left : goal.returns-clause-left
returns-clause-left g c = at-on c.watching.result (touched-out c.args.draft.now.tree c.args.draft.now.touched c.look_at_all.new.out.left.keys c.in_ok-look_at_all.ensures.left)

pub returns-clause-asked : goal.returns-clause-asked
returns-clause-asked g c =
    let d = c.args.draft.now in
    let of = linked_to c.args.watchers.now in
    let written = linked_to c.look_at_all.new.written in
    let looked = c.in_ok-look_at_all.ensures in
    at-on c.watching.result (first-asked d.base d.tree d.touched c.look_at_all.new.out.left.keys c.look_at_all.new.out.gone.keys of written (holds-lists d.base c.args.watchers.now c.requires.index) looked.covered looked.leaves looked.only)

pub returns-clause-few : goal.returns-clause-few
returns-clause-few g c =
    let d = c.args.draft.now in
    let of = linked_to c.args.watchers.now in
    let written = linked_to c.look_at_all.new.written in
    let left = c.look_at_all.new.out.left.keys in
    let gone = c.look_at_all.new.out.gone.keys in
    let tests = c.look_at_all.new.tests.keys in
    let changed = c.look_at_all.new.changed.keys in
    let looked = c.in_ok-look_at_all.ensures in
    both-ok c.watching.result (λ set. OnlyAsks (asked left gone of written) changed tests set.keys) (λ set. IsStrictlySortedBy path_cmp set.keys) (λ set. IsFirst d set.keys)
    (λ set only rising. first-few d left gone tests changed set.keys of written (holds-lists d.base c.args.watchers.now c.requires.index) looked.only looked.tested looked.anew c.len-count.ensures.ordered only rising)
    c.watching.ensures.only c.watching.ensures.rising
