-- Nodes that come into lists, and go.
use Rattle.std.proofs.Common.{◌≡◌, arith, length, Bool, true, false, cond, not, List, [], ◌∷◌, refl, sym, ap, subst, ◌∙◌, Option, Some, None, ◌&&◌, ◌||◌}
use Rattle.std.proofs.lemmas.Bool.{false≢true}
use Rattle.std.specs.Prelude.{is_some, is_err, OnOk, OnErr, Ok, Err}
use Rattle.std.specs.declared.result.Result.{Result}
use Rattle.std.specs.Map.{lookup}
use Rattle.std.specs.HashMap.{HashMap, UpdatesBy}
use Rattle.std.specs.Cmp.{eq_by_cmp_equiv}
use Rattle.std.specs.Ordering.{is_eq}
use Rattle.std.specs.FinMap.{get, find, insert, remove, get-insert, get-remove, get-empty, same_map, empty}
use Rattle.khepri_terms.specs.Terms.{NameText}
use Rattle.khepri_terms.specs.Order.{path_cmp, path_eq}
use Rattle.khepri_terms.specs.OrderLaws.{path_ties}
use Rattle.khepri_types.proofs.Order.{path_cmp_total, path_cmp-same}
use Rattle.worklist_laws.specs.Candidates.{is_in}
use Rattle.worklist_laws.specs.Links.{Links, targets_at}
use Rattle.worklist_laws.proofs.Among.{tied, tie}
use Rattle.reverse_watch.specs.Listing.{Lists, has, is_link, Same, links_of, IsIndex}

abbrev pub Path : Type 0
Path = List NameText

abbrev pub Map : Type 0 → Type 0
Map S = HashMap Path (List Path) S

pub find_lookup : (q : Path) (es : Lists) → find path_cmp q es ≡ lookup (path_eq q) es
find_lookup q [] = refl
find_lookup q (e ∷ es) = ap (cond (is_eq (path_cmp q e.0)) (Some e.1)) (find_lookup q es) ∙ ap (λ (b : Bool). cond b (Some e.1) (lookup (path_eq q) es)) (sym (path_ties q e.0))

pub other_way : (p q : Path) → is_eq (path_cmp p q) ≡ is_eq (path_cmp q p)
other_way p q = (eq_by_cmp_equiv path_cmp_total).symm p q

-- what is found in a map after a change
pub found_now : {S : Type 0} (p : Path) (m n : Map S) (w : Option (List Path)) → UpdatesBy path_eq (path_eq p) m n w → (q : Path) → find path_cmp q n.entries ≡ cond (is_eq (path_cmp q p)) w (find path_cmp q m.entries)
found_now p m n w up q = find_lookup q n.entries ∙ (up.0 q ∙ (ap (λ (b : Bool). cond b w (lookup (path_eq q) m.entries)) (path_ties p q ∙ other_way p q) ∙ ap (cond (is_eq (path_cmp q p)) w) (sym (find_lookup q m.entries))))

-- one list is written
pub moved : {S : Type 0} (f : Bool → Bool → Bool) → ((a : Bool) → f a false ≡ a) → (p node : Path) (m n : Map S) (w : List Path) → UpdatesBy path_eq (path_eq p) m n (Some w)
    → ((k : Path) → is_in w k ≡ f (has m.entries p k) (is_eq (path_cmp k node))) → (q k : Path) → has n.entries q k ≡ f (has m.entries q k) (is_link (p ∷ []) node q k)
moved f none p node m n w up change q k =
    ap (λ (o : Option (List Path)). is_in (targets_at o) k) (found_now p m n (Some w) up q)
    ∙ elim (is_eq (path_cmp q p)) as (λ t. is_eq (path_cmp q p) ≡ t → is_in (targets_at (cond t (Some w) (find path_cmp q m.entries))) k ≡ f (has m.entries q k) ((t || false) && is_eq (path_cmp k node))) [
      | true ↦ λ t. change k ∙ ap (λ (r : Path). f (has m.entries r k) (is_eq (path_cmp k node))) (sym (tied q p t))
      | false ↦ λ t. sym (none (has m.entries q k))
    ] refl

pub or_none : (a : Bool) → (a || false) ≡ a
or_none true = refl
or_none false = refl

pub and_none : (a : Bool) → (a && not false) ≡ a
and_none true = refl
and_none false = refl

pub or_more : (a b c e : Bool) → ((a || ((b || false) && e)) || (c && e)) ≡ (a || ((b || c) && e))
or_more true b c e = refl
or_more false true c true = refl
or_more false true true false = refl
or_more false true false false = refl
or_more false false c e = refl

pub and_more : (a b c e : Bool) → ((a && not ((b || false) && e)) && not (c && e)) ≡ (a && not ((b || c) && e))
and_more false b c e = refl
and_more true true c true = refl
and_more true true true false = refl
and_more true true false false = refl
and_more true false c e = refl

-- what isn't linked by all isn't by the first, nor by the others
pub first_not : (b c e : Bool) → ((b || c) && e) ≡ false → ((b || false) && e) ≡ false
first_not true c e h = h
first_not false c e h = refl

pub rest_not : (b c e : Bool) → ((b || c) && e) ≡ false → (c && e) ≡ false
rest_not true true e h = h
rest_not true false e h = refl
rest_not false c e h = h

-- what may have come goes again
pub undone : (old mid x : Bool) → (x ≡ true → old ≡ false) → (x ≡ false → mid ≡ old) → (mid && not x) ≡ old
undone old true true free same = sym (free refl)
undone old false true free same = sym (free refl)
undone old true false free same = same refl
undone old false false free same = same refl

pub in_none : (a b c : Bool) → c ≡ false → (a || b) ≡ c → a ≡ c
in_none true b c h g = g
in_none false b c h g = sym h

pub get-links : (es : Lists) (q : Path) → get (links_of es) q ≡ find path_cmp q es
get-links [] q = get-empty path_cmp q
get-links (e ∷ es) q = get-insert path_cmp_total (links_of es) e.0 e.1 q ∙ ap (cond (is_eq (path_cmp q e.0)) (Some e.1)) (get-links es q)

pub links-put : {S : Type 0} (m n : Map S) (p : Path) (ts : List Path) → UpdatesBy path_eq (path_eq p) m n (Some ts) → links_of n.entries ≡ insert (links_of m.entries) p ts
links-put m n p ts up = same_map path_cmp_total path_cmp-same _ _ (λ q.
    get-links n.entries q ∙ (found_now p m n (Some ts) up q ∙ (ap (cond (is_eq (path_cmp q p)) (Some ts)) (sym (get-links m.entries q)) ∙ sym (get-insert path_cmp_total (links_of m.entries) p ts q))))

pub links-gone : {S : Type 0} (m n : Map S) (p : Path) → UpdatesBy path_eq (path_eq p) m n None → links_of n.entries ≡ remove (links_of m.entries) p
links-gone m n p up = same_map path_cmp_total path_cmp-same _ _ (λ q.
    get-links n.entries q ∙ (found_now p m n None up q ∙ (ap (cond (is_eq (path_cmp q p)) None) (sym (get-links m.entries q)) ∙ sym (get-remove path_cmp_total (links_of m.entries) p q))))

-- the index after a node is linked
pub index-put : {S : Type 0} (ls ls' : Lists) (m n : Map S) (p : Path) (ts : List Path) → IsIndex ls m.entries → find path_cmp p m.entries ≡ None → UpdatesBy path_eq (path_eq p) m n (Some ts)
    → ((q k : Path) → has ls' q k ≡ (has ls q k || is_link ts p q k)) → IsIndex ls' n.entries
index-put ls ls' m n p ts index free up came q k =
    came q k ∙ (ap (λ (b : Bool). b || is_link ts p q k) (index q k)
    ∙ (elim (is_eq (path_cmp k p)) as (λ t. is_eq (path_cmp k p) ≡ t → (is_in (targets_at (find path_cmp k m.entries)) q || (is_in ts q && t)) ≡ is_in (targets_at (cond t (Some ts) (find path_cmp k m.entries))) q) [
      | true ↦ λ t. ap (λ (o : Option (List Path)). is_in (targets_at o) q || (is_in ts q && true)) (ap (λ (r : Path). find path_cmp r m.entries) (tied k p t) ∙ free) ∙ and_true (is_in ts q)
      | false ↦ λ t. ap (λ (b : Bool). is_in (targets_at (find path_cmp k m.entries)) q || b) (and_false (is_in ts q)) ∙ or_none (is_in (targets_at (find path_cmp k m.entries)) q)
    ] refl
    ∙ sym (ap (λ (o : Option (List Path)). is_in (targets_at o) q) (found_now p m n (Some ts) up k)))) where
      and_true : (a : Bool) → (a && true) ≡ a
      and_true true = refl
      and_true false = refl

      and_false : (a : Bool) → (a && false) ≡ false
      and_false true = refl
      and_false false = refl

-- the index after a node is unlinked
pub index-gone : {S : Type 0} (ls ls' : Lists) (m n : Map S) (p : Path) (ts : List Path) → IsIndex ls m.entries → find path_cmp p m.entries ≡ Some ts → UpdatesBy path_eq (path_eq p) m n None
    → ((q k : Path) → has ls' q k ≡ (has ls q k && not (is_link ts p q k))) → IsIndex ls' n.entries
index-gone ls ls' m n p ts index there up went q k =
    went q k ∙ (ap (λ (b : Bool). b && not (is_link ts p q k)) (index q k)
    ∙ (elim (is_eq (path_cmp k p)) as (λ t. is_eq (path_cmp k p) ≡ t → (is_in (targets_at (find path_cmp k m.entries)) q && not (is_in ts q && t)) ≡ is_in (targets_at (cond t None (find path_cmp k m.entries))) q) [
      | true ↦ λ t. ap (λ (o : Option (List Path)). is_in (targets_at o) q && not (is_in ts q && true)) (ap (λ (r : Path). find path_cmp r m.entries) (tied k p t) ∙ there) ∙ gone (is_in ts q)
      | false ↦ λ t. stay (is_in (targets_at (find path_cmp k m.entries)) q) (is_in ts q)
    ] refl
    ∙ sym (ap (λ (o : Option (List Path)). is_in (targets_at o) q) (found_now p m n None up k)))) where
      gone : (a : Bool) → (a && not (a && true)) ≡ false
      gone true = refl
      gone false = refl

      stay : (a b : Bool) → (a && not (b && false)) ≡ a
      stay true true = refl
      stay true false = refl
      stay false b = refl

-- a link that is taken back
pub index-same : (ls mid ls' es : Lists) (p : Path) (ts : List Path) → IsIndex ls es → find path_cmp p es ≡ None
    → ((q k : Path) → is_link ts p q k ≡ false → has mid q k ≡ has ls q k) → ((q k : Path) → has ls' q k ≡ (has mid q k && not (is_link ts p q k))) → IsIndex ls' es
index-same ls mid ls' es p ts index free others went q k =
    went q k ∙ (undone (has ls q k) (has mid q k) (is_link ts p q k) (λ x. index q k ∙ ap (λ (o : Option (List Path)). is_in (targets_at o) q) (ap (λ (r : Path). find path_cmp r es) (tied k p (second (is_in ts q) (is_eq (path_cmp k p)) x)) ∙ free)) (others q k) ∙ index q k) where
      second : (a b : Bool) → (a && b) ≡ true → b ≡ true
      second true b h = h
      second false b h = absurd cc

pub on_ok : {A E : Type 0} (r : Result A E) (P Q : Type 0) → (P → Q) → OnOk r P → OnOk r Q
on_ok (Ok x) P Q f h = f h
on_ok (Err x) P Q f h = tt

pub on_err : {A E : Type 0} (r : Result A E) (P Q : Type 0) → (P → Q) → OnErr r P → OnErr r Q
on_err (Ok x) P Q f h = tt
on_err (Err x) P Q f h = f h

-- a list is written that has the same paths
pub stayed : {S : Type 0} (p : Path) (m n : Map S) (w : List Path) → UpdatesBy path_eq (path_eq p) m n (Some w) → ((k : Path) → is_in w k ≡ has m.entries p k) → Same m.entries n.entries
stayed p m n w up same q k = moved (λ (a x : Bool). a) (λ a. refl) p [] m n w up same q k

and_stays : (a x : Bool) → (x ≡ true → a ≡ false) → a ≡ (a && not x)
and_stays true true none = none refl
and_stays true false none = refl
and_stays false x none = refl

first_half : (a b : Bool) → ((a || false) && b) ≡ true → a ≡ true
first_half true b h = refl
first_half false b h = absurd cc

-- from no list nothing goes
pub absent : (p node : Path) (es : Lists) → find path_cmp p es ≡ None → (q k : Path) → has es q k ≡ (has es q k && not (is_link (p ∷ []) node q k))
absent p node es none q k = and_stays (has es q k) (is_link (p ∷ []) node q k) (λ x. ap (λ (o : Option (List Path)). is_in (targets_at o) k) (ap (λ (r : Path). find path_cmp r es) (tied q p (first_half (is_eq (path_cmp q p)) (is_eq (path_cmp k node)) x)) ∙ none))

pub ok_of : {A E : Type 0} (r : Result A E) (P : Type 0) → is_err r ≡ false → OnOk r P → P
ok_of (Ok x) P h p = p
ok_of (Err x) P h p = absurd cc

-- a list that has nobody goes
pub emptied : {S : Type 0} (t : Path) (m n : Map S) → find path_cmp t m.entries ≡ Some [] → UpdatesBy path_eq (path_eq t) m n None → (q k : Path) → has n.entries q k ≡ has m.entries q k
emptied t m n nobody up q k =
    ap (λ (o : Option (List Path)). is_in (targets_at o) k) (found_now t m n None up q)
    ∙ elim (is_eq (path_cmp q t)) as (λ b. is_eq (path_cmp q t) ≡ b → is_in (targets_at (cond b None (find path_cmp q m.entries))) k ≡ has m.entries q k) [
      | true ↦ λ b. sym (ap (λ (o : Option (List Path)). is_in (targets_at o) k) (ap (λ (r : Path). find path_cmp r m.entries) (tied q t b) ∙ nobody))
      | false ↦ λ b. refl
    ] refl

-- some node is linked where there is an entry
pub some_linked : (e : Path × List Path) (es : Lists) → is_some (get (links_of (e ∷ es)) e.0) ≡ true
some_linked e es = ap is_some (get-links (e ∷ es) e.0) ∙ ap (λ (b : Bool). is_some (cond b (Some e.1) (find path_cmp e.0 es))) (tie e.0 e.0 refl)

pub none_linked : (es : Lists) → links_of es ≡ empty → length es ≡ 0
none_linked [] h = refl
none_linked (e ∷ es) h = absurd (false≢true (sym (ap (λ (L : Links). is_some (get L e.0)) h ∙ ap is_some (get-empty path_cmp e.0)) ∙ some_linked e es))

pub no_links : (es : Lists) → length es ≡ 0 → links_of es ≡ empty
no_links [] h = refl
no_links (e ∷ es) h = absurd (omega arith)
