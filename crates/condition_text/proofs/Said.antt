-- What is printed of each condition is its spelling.
use Rattle.std.proofs.Common.{◌≡◌, ℕ, List, ◌∷◌, ◌++◌, sym, ap, ◌∙◌, map, codes}
use Rattle.khepri_terms.specs.Terms.{NameText}
use Rattle.khepri_terms.specs.Names.{comp_text}
use Rattle.khepri_terms.specs.declared.rec.Field.{Field}
use Rattle.khepri_terms.specs.declared.scalar.Scalar.{Scalar}
use Rattle.khepri_terms.specs.Records.{scalar_text, rec_text}
use Rattle.khepri_types.specs.declared.glob.Glob.{Glob}
use Rattle.khepri_types.specs.declared.compare.Compare.{Compare}
use Rattle.khepri_types.specs.Compares.{compare_text}
use Rattle.khepri_types.specs.Globs.{glob_text}
use Rattle.khepri_types.specs.declared.condition.Condition.{Condition, roll-Condition}
use Rattle.khepri_types.specs.declared.condition.Condition.TheVariants as c
use Rattle.khepri_types.specs.declared.condition.Condition.TheVariants.{rolls-Absent, rolls-Exists, rolls-Payload, rolls-Data, rolls-Sproc, rolls-Name, rolls-Is, rolls-Field, rolls-Pv, rolls-Cv, rolls-Kids, rolls-Not, rolls-All, rolls-Any}
use Rattle.khepri_types.specs.declared.condition.Condition.TheFolds.{fold-roll-Condition}
use Rattle.khepri_types.specs.declared.condition.Condition.TheOpen.{Condition-F}
use Rattle.khepri_types.specs.ConditionTexts.{joined, asked_text, number_text, layer_text, condition_text}

said : (F : Condition-F Condition) (u v : Condition) (t old new : List ℕ) → roll-Condition F ≡ u → v ≡ u → condition_text (roll-Condition F) ≡ t → new ≡ old ++ t → new ≡ old ++ condition_text v
said F u v t old new r is text e = e ∙ ap (λ (x : List ℕ). old ++ x) (sym text ∙ ap condition_text (r ∙ sym is))

pub absent_printed : (v : Condition) (old new : List ℕ) → v ≡ c.Absent → new ≡ old ++ codes "absent" → new ≡ old ++ condition_text v
unfolding layer_text
absent_printed v old new is e = said Condition-F.Absent c.Absent v (codes "absent") old new rolls-Absent is (fold-roll-Condition (List ℕ) layer_text Condition-F.Absent) e

pub exists_printed : (v : Condition) (old new : List ℕ) → v ≡ c.Exists → new ≡ old ++ codes "exists" → new ≡ old ++ condition_text v
unfolding layer_text
exists_printed v old new is e = said Condition-F.Exists c.Exists v (codes "exists") old new rolls-Exists is (fold-roll-Condition (List ℕ) layer_text Condition-F.Exists) e

pub payload_printed : (v : Condition) (old new : List ℕ) → v ≡ c.Payload → new ≡ old ++ codes "payload" → new ≡ old ++ condition_text v
unfolding layer_text
payload_printed v old new is e = said Condition-F.Payload c.Payload v (codes "payload") old new rolls-Payload is (fold-roll-Condition (List ℕ) layer_text Condition-F.Payload) e

pub data_printed : (v : Condition) (old new : List ℕ) → v ≡ c.Data → new ≡ old ++ codes "data" → new ≡ old ++ condition_text v
unfolding layer_text
data_printed v old new is e = said Condition-F.Data c.Data v (codes "data") old new rolls-Data is (fold-roll-Condition (List ℕ) layer_text Condition-F.Data) e

pub sproc_printed : (v : Condition) (old new : List ℕ) → v ≡ c.Sproc → new ≡ old ++ codes "sproc" → new ≡ old ++ condition_text v
unfolding layer_text
sproc_printed v old new is e = said Condition-F.Sproc c.Sproc v (codes "sproc") old new rolls-Sproc is (fold-roll-Condition (List ℕ) layer_text Condition-F.Sproc) e

pub name_printed : (g : Glob) (v : Condition) (old new : List ℕ) → v ≡ c.Name g → new ≡ old ++ asked_text (codes "name") (glob_text g) → new ≡ old ++ condition_text v
unfolding layer_text
name_printed g v old new is e = said (Condition-F.Name g) (c.Name g) v (asked_text (codes "name") (glob_text g)) old new (rolls-Name g) is (fold-roll-Condition (List ℕ) layer_text (Condition-F.Name g)) e

pub is_printed : (r : List Field) (v : Condition) (old new : List ℕ) → v ≡ c.Is r → new ≡ old ++ asked_text (codes "is") (rec_text r) → new ≡ old ++ condition_text v
unfolding layer_text
is_printed r v old new is e = said (Condition-F.Is r) (c.Is r) v (asked_text (codes "is") (rec_text r)) old new (rolls-Is r) is (fold-roll-Condition (List ℕ) layer_text (Condition-F.Is r)) e

pub field_printed : (key : NameText) (op : Compare) (x : Scalar) (v : Condition) (old new : List ℕ) → v ≡ c.Field key op x → new ≡ old ++ asked_text (codes "field") (comp_text key ++ 44 ∷ (compare_text op ++ 44 ∷ scalar_text x)) → new ≡ old ++ condition_text v
unfolding layer_text
field_printed key op x v old new is e = said (Condition-F.Field key op x) (c.Field key op x) v (asked_text (codes "field") (comp_text key ++ 44 ∷ (compare_text op ++ 44 ∷ scalar_text x))) old new (rolls-Field key op x) is (fold-roll-Condition (List ℕ) layer_text (Condition-F.Field key op x)) e

pub pv_printed : (op : Compare) (n : ℕ) (v : Condition) (old new : List ℕ) → v ≡ c.Pv op n → new ≡ old ++ asked_text (codes "pv") (number_text op n) → new ≡ old ++ condition_text v
unfolding layer_text
pv_printed op n v old new is e = said (Condition-F.Pv op n) (c.Pv op n) v (asked_text (codes "pv") (number_text op n)) old new (rolls-Pv op n) is (fold-roll-Condition (List ℕ) layer_text (Condition-F.Pv op n)) e

pub cv_printed : (op : Compare) (n : ℕ) (v : Condition) (old new : List ℕ) → v ≡ c.Cv op n → new ≡ old ++ asked_text (codes "cv") (number_text op n) → new ≡ old ++ condition_text v
unfolding layer_text
cv_printed op n v old new is e = said (Condition-F.Cv op n) (c.Cv op n) v (asked_text (codes "cv") (number_text op n)) old new (rolls-Cv op n) is (fold-roll-Condition (List ℕ) layer_text (Condition-F.Cv op n)) e

pub kids_printed : (op : Compare) (n : ℕ) (v : Condition) (old new : List ℕ) → v ≡ c.Kids op n → new ≡ old ++ asked_text (codes "kids") (number_text op n) → new ≡ old ++ condition_text v
unfolding layer_text
kids_printed op n v old new is e = said (Condition-F.Kids op n) (c.Kids op n) v (asked_text (codes "kids") (number_text op n)) old new (rolls-Kids op n) is (fold-roll-Condition (List ℕ) layer_text (Condition-F.Kids op n)) e

pub not_printed : (x : Condition) (v : Condition) (old new : List ℕ) → v ≡ c.Not x → new ≡ old ++ asked_text (codes "not") (condition_text x) → new ≡ old ++ condition_text v
unfolding layer_text
not_printed x v old new is e = said (Condition-F.Not x) (c.Not x) v (asked_text (codes "not") (condition_text x)) old new (rolls-Not x) is (fold-roll-Condition (List ℕ) layer_text (Condition-F.Not x)) e

pub all_printed : (xs : List Condition) (v : Condition) (old new : List ℕ) → v ≡ c.All xs → new ≡ old ++ asked_text (codes "all") (joined (map condition_text xs)) → new ≡ old ++ condition_text v
unfolding layer_text
all_printed xs v old new is e = said (Condition-F.All xs) (c.All xs) v (asked_text (codes "all") (joined (map condition_text xs))) old new (rolls-All xs) is (fold-roll-Condition (List ℕ) layer_text (Condition-F.All xs)) e

pub any_printed : (xs : List Condition) (v : Condition) (old new : List ℕ) → v ≡ c.Any xs → new ≡ old ++ asked_text (codes "any") (joined (map condition_text xs)) → new ≡ old ++ condition_text v
unfolding layer_text
any_printed xs v old new is e = said (Condition-F.Any xs) (c.Any xs) v (asked_text (codes "any") (joined (map condition_text xs))) old new (rolls-Any xs) is (fold-roll-Condition (List ℕ) layer_text (Condition-F.Any xs)) e
