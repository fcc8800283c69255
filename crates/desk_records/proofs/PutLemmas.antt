-- Entities that are put in their places.
use Rattle.std.proofs.Common.{ℕ, ◌≡◌, ◌<◌, ◌≤◌, ◌+◌, Bool, true, false, cond, List, [], ◌∷◌, ◌++◌, length, get_or, take, refl, arith, zero, suc}
use Rattle.std.proofs.Common.{ap, sym, ◌∙◌, subst, Some, None, inl, inr}
use Rattle.std.specs.Prelude.{Option, IfSome, slice_get, slice_set, position, not, nat_lt}
use Rattle.std.specs.List.{prefix_len}
use Rattle.std.specs.Str.{bytes_eq}
use Rattle.std.proofs.lemmas.Bool.{false≢true}
use Rattle.std.proofs.lemmas.Bool.Decides.{nat_tests}
use Rattle.std.proofs.lemmas.List.Quantifiers.{position-Some}
use Rattle.std.proofs.lemmas.Slice.Eq.{bytes_eq-Decides}
use Rattle.list_words.specs.Lists.{Each, Some_of, AreDifferent}
use Rattle.list_words.proofs.EachLemmas.{some_at, different_rest, different_more}
use Rattle.list_words.proofs.GetLemmas.{get_at, get_taken, take_one_more}
use Rattle.role_order.specs.Names.{place_of}
use Rattle.role_order.proofs.NameLemmas.{place_of-none}
use Rattle.arbac_policy.specs.declared.holder.On.{On}
use Rattle.arbac_policy.specs.declared.holder.On.TheVariants.{User, Permission}
use Rattle.desk_records.specs.declared.tables.Entity.{Entity}
use Rattle.desk_records.specs.declared.TheConstants.{MOST_ENTITIES}
use Rattle.desk_records.specs.Records.{Kept, of_kind, names_of, AreEntities}
use Rattle.desk_records.specs.Changes.{is_kind, put, put_each, if_any, IsNamed}

same_bytes : (a b : List ℕ) → bytes_eq a b ≡ true → a ≡ b
same_bytes a b e = (bytes_eq-Decides a b).0 e

other_bytes : (a b : List ℕ) → bytes_eq a b ≡ false → a ≡ b → ⊥
other_bytes a b e same = false≢true (sym e ∙ (bytes_eq-Decides a b).1 same)

pub kind_is : (a b : On) → is_kind a b ≡ true → a ≡ b
kind_is User User e = refl
kind_is User Permission e = cc
kind_is Permission User e = cc
kind_is Permission Permission e = refl

-- names by place

pub length_names : (xs : List Entity) → length (names_of xs) ≡ length xs
length_names [] = refl
length_names (x ∷ xs) = ap suc (length_names xs)

pub get_name : (xs : List Entity) (i : ℕ) (x : Entity) → slice_get xs i ≡ Some x → slice_get (names_of xs) i ≡ Some x.name
get_name [] i x e = cc
get_name (y ∷ ys) zero x e = let same : y ≡ x = cc in ap (λ (z : Entity). Some z.name) same
get_name (y ∷ ys) (suc i) x e = get_name ys i x e

pub names_last : (xs : List Entity) (x : Entity) → names_of (xs ++ x ∷ []) ≡ names_of xs ++ x.name ∷ []
names_last [] x = refl
names_last (y ∷ ys) x = ap (λ t. y.name ∷ t) (names_last ys x)

names_take : (xs : List Entity) (i : ℕ) → names_of (take i xs) ≡ take i (names_of xs)
names_take xs zero = refl
names_take [] (suc i) = refl
names_take (x ∷ xs) (suc i) = ap (λ t. x.name ∷ t) (names_take xs i)

-- with the entity at the place
pub names_more : (xs : List Entity) (i : ℕ) (x : Entity) → slice_get xs i ≡ Some x
    → names_of (take (i + 1) xs) ≡ names_of (take i xs) ++ x.name ∷ []
names_more xs i x at = ap names_of (take_one_more xs i x at) ∙ names_last (take i xs) x

-- where names differ, that of an entity isn't one of an entity before it
pub name_new : (xs : List Entity) (i : ℕ) (x : Entity) → slice_get xs i ≡ Some x → AreDifferent (names_of xs)
    → place_of (names_of (take i xs)) x.name ≡ None
name_new xs i x at different = rw (names_take xs i) (place_of-none (take i names) x.name before)
  where
    names : List (List ℕ)
    names = names_of xs

    before : (k : ℕ) → k < length (take i names) → bytes_eq (get_or (take i names) k []) x.name ≡ true → ⊥
    before k l e =
        let there = get_taken names i k (get_or (take i names) k []) (get_at (take i names) k [] l) in
        let same : get_or (take i names) k [] ≡ x.name = same_bytes (get_or (take i names) k []) x.name e in
        let one = different k i x.name (there.1 ∙ ap Some same) (get_name xs i x at) in
        omega (arith, one, there.0)

prefix-names : (name : List ℕ) (xs : List Entity)
    → prefix_len (λ (x : Entity). not (bytes_eq x.name name)) xs ≡ prefix_len (λ n. not (bytes_eq n name)) (names_of xs)
prefix-names name [] = refl
prefix-names name (x ∷ xs) =
    elim (bytes_eq x.name name) as (λ t. cond (not t) (1 + prefix_len (λ (x : Entity). not (bytes_eq x.name name)) xs) 0
    ≡ cond (not t) (1 + prefix_len (λ n. not (bytes_eq n name)) (names_of xs)) 0)
    [ true ↦ refl | false ↦ ap (λ n. 1 + n) (prefix-names name xs) ]

-- a place is found among entities as it is among their names
pub position-names : (name : List ℕ) (xs : List Entity) → position (λ (x : Entity). bytes_eq x.name name) xs ≡ place_of (names_of xs) name
position-names name xs = rw (prefix-names name xs, length_names xs) refl

-- a name that is found is among the names
pub placed_some : (names : List (List ℕ)) (text : List ℕ) (k : ℕ) → place_of names text ≡ Some k → Some_of (λ name. name ≡ text) names
placed_some names text k e =
    let found = position-Some (λ name. bytes_eq name text) names k [] e in
    some_at (λ name. name ≡ text) names k (get_or names k []) (get_at names k [] found.0) (same_bytes (get_or names k []) text found.1)

full : (p : List ℕ → Bool) (names : List (List ℕ)) → length names ≤ prefix_len (λ name. not (p name)) names → Each (λ name. p name ≡ false) names
full p [] l = tt
full p (n ∷ ns) l = go (p n) refl l (full p ns)
  where
    go : (t : Bool) → p n ≡ t → suc (length ns) ≤ cond (not t) (1 + prefix_len (λ name. not (p name)) ns) 0
        → (length ns ≤ prefix_len (λ name. not (p name)) ns → Each (λ name. p name ≡ false) ns) → Each (λ name. p name ≡ false) (n ∷ ns)
    go true e l more = absurd (omega (arith, l))
    go false e l more = (e, more (omega (arith, l)))

-- a name that isn't found is none of the names
pub unplaced_each : (names : List (List ℕ)) (text : List ℕ) → place_of names text ≡ None → Each (λ name. bytes_eq name text ≡ false) names
unplaced_each names text e = full (λ name. bytes_eq name text) names (past (prefix_len (λ name. not (bytes_eq name text)) names) (length names) e)
  where
    past : (n m : ℕ) → cond (nat_lt n m) (Some n) None ≡ None → m ≤ n
    past n m e = by_test (nat_lt n m) refl e
      where
        by_test : (t : Bool) → nat_lt n m ≡ t → cond t (Some n) None ≡ None → m ≤ n
        by_test true t e = cc
        by_test false t e = grind (arith, nat_tests)

-- put is a write at the place of the name, or a push

pub put_at : (xs : List Entity) (e : Entity) (i : ℕ) → i < length (names_of xs) → bytes_eq (get_or (names_of xs) i []) e.name ≡ true
    → ((k : ℕ) → k < i → bytes_eq (get_or (names_of xs) k []) e.name ≡ false) → slice_set xs i e ≡ put xs e
put_at [] e i l h before = absurd (omega arith)
put_at (x ∷ xs) e zero l h before = rw h refl
put_at (x ∷ xs) e (suc i) l h before =
    rw (before 0 (omega arith)) (ap (λ (t : List Entity). x ∷ t) (put_at xs e i (omega arith) h (λ k m. before (suc k) (omega arith))))

pub put_placed : (xs : List Entity) (e : Entity) (i : ℕ) → place_of (names_of xs) e.name ≡ Some i → slice_set xs i e ≡ put xs e
put_placed xs e i placed =
    let found = position-Some (λ name. bytes_eq name e.name) (names_of xs) i [] placed in put_at xs e i found.0 found.1 found.2

pub put_last_of : (xs : List Entity) (e : Entity) → Each (λ name. bytes_eq name e.name ≡ false) (names_of xs) → xs ++ e ∷ [] ≡ put xs e
put_last_of [] e h = refl
put_last_of (x ∷ xs) e h = rw h.0 (ap (λ (t : List Entity). x ∷ t) (put_last_of xs e h.1))

pub put_new : (xs : List Entity) (e : Entity) → place_of (names_of xs) e.name ≡ None → xs ++ e ∷ [] ≡ put xs e
put_new xs e none = put_last_of xs e (unplaced_each (names_of xs) e.name none)

-- put of a name that is there keeps the names
names_known : (xs : List Entity) (e : Entity) → Some_of (λ name. name ≡ e.name) (names_of xs) → names_of (put xs e) ≡ names_of xs
names_known [] e h = absurd h
names_known (x ∷ xs) e h = go (bytes_eq x.name e.name) refl h (names_known xs e)
  where
    go : (t : Bool) → bytes_eq x.name e.name ≡ t → Some_of (λ name. name ≡ e.name) (x.name ∷ names_of xs)
        → (Some_of (λ name. name ≡ e.name) (names_of xs) → names_of (put xs e) ≡ names_of xs)
        → names_of (cond t (e ∷ xs) (x ∷ put xs e)) ≡ x.name ∷ names_of xs
    go true b h more = ap (λ n. n ∷ names_of xs) (sym (same_bytes x.name e.name b))
    go false b (inl same) more = absurd (other_bytes x.name e.name b same)
    go false b (inr h) more = ap (λ t. x.name ∷ t) (more h)

pub names_placed : (xs : List Entity) (e : Entity) (i : ℕ) → place_of (names_of xs) e.name ≡ Some i → names_of (put xs e) ≡ names_of xs
names_placed xs e i placed = names_known xs e (placed_some (names_of xs) e.name i placed)

pub length_named : (xs : List Entity) (e : Entity) → IsNamed xs e.name → length (put xs e) ≡ length xs
length_named xs e named = sym (length_names (put xs e)) ∙ ap (λ (t : List (List ℕ)). length t) (names_placed xs e named.0 named.1) ∙ length_names xs

-- what put keeps

pub each_put : (P : Entity → Type 0) (xs : List Entity) (e : Entity) → Each P xs → P e → Each P (put xs e)
each_put P [] e h p = (p, tt)
each_put P (x ∷ xs) e h p = go (bytes_eq x.name e.name) (each_put P xs e h.1 p)
  where
    go : (t : Bool) → Each P (put xs e) → Each P (cond t (e ∷ xs) (x ∷ put xs e))
    go true more = (p, h.1)
    go false more = (h.0, more)

each_name_put : (P : List ℕ → Type 0) (xs : List Entity) (e : Entity) → Each P (names_of xs) → P e.name → Each P (names_of (put xs e))
each_name_put P [] e h p = (p, tt)
each_name_put P (x ∷ xs) e h p = go (bytes_eq x.name e.name) (each_name_put P xs e h.1 p)
  where
    go : (t : Bool) → Each P (names_of (put xs e)) → Each P (names_of (cond t (e ∷ xs) (x ∷ put xs e)))
    go true more = (p, h.1)
    go false more = (h.0, more)

pub different_put : (xs : List Entity) (e : Entity) → AreDifferent (names_of xs) → AreDifferent (names_of (put xs e))
different_put [] e d = different_more e.name [] tt d
different_put (x ∷ xs) e d =
    let rest = different_rest x.name (names_of xs) d in go (bytes_eq x.name e.name) refl rest.0 (different_put xs e rest.1)
  where
    go : (t : Bool) → bytes_eq x.name e.name ≡ t → Each (λ y. x.name ≡ y → ⊥) (names_of xs) → AreDifferent (names_of (put xs e))
        → AreDifferent (names_of (cond t (e ∷ xs) (x ∷ put xs e)))
    go true b apart more = subst (λ n. AreDifferent (n ∷ names_of xs)) (same_bytes x.name e.name b) d
    go false b apart more =
        different_more x.name (names_of (put xs e)) (each_name_put (λ y. x.name ≡ y → ⊥) xs e apart (other_bytes x.name e.name b)) more

long_put : (xs : List Entity) (e : Entity) → length xs ≤ length (put xs e)
long_put [] e = omega arith
long_put (x ∷ xs) e = go (bytes_eq x.name e.name) (long_put xs e)
  where
    go : (t : Bool) → length xs ≤ length (put xs e) → suc (length xs) ≤ length (cond t (e ∷ xs) (x ∷ put xs e))
    go true more = omega arith
    go false more = omega (arith, more)

long_put_if : (t : Bool) (xs : List Entity) (e : Entity) → length xs ≤ length (cond t (put xs e) xs)
long_put_if true xs e = long_put xs e
long_put_if false xs e = omega arith

-- no entity goes
pub long_put_each : (on : On) (xs es : List Entity) → length xs ≤ length (put_each on xs es)
long_put_each on xs [] = omega arith
long_put_each on xs (e ∷ es) =
    let once = long_put_if (is_kind e.on on) xs e in let more = long_put_each on (cond (is_kind e.on on) (put xs e) xs) es in omega (arith, once, more)

-- entities stay entities where few enough are left
pub entities_put_each : (on : On) (xs es : List Entity) → AreEntities on xs → Each (λ e. AreDifferent e.roles) es
    → length (put_each on xs es) ≤ MOST_ENTITIES → AreEntities on (put_each on xs es)
entities_put_each on xs [] h roles few = h
entities_put_each on xs (e ∷ es) h roles few =
    let next = cond (is_kind e.on on) (put xs e) xs in
    let long = long_put_each on next es in
    entities_put_each on next es (go (is_kind e.on on) refl (omega (arith, long, few))) roles.1 few
  where
    go : (t : Bool) → is_kind e.on on ≡ t → length (cond t (put xs e) xs) ≤ MOST_ENTITIES → AreEntities on (cond t (put xs e) xs)
    go true kind few = record {
      few = few;
      kinds = each_put (λ x. x.on ≡ on) xs e h.kinds (kind_is e.on on kind);
      names = different_put xs e h.names;
      roles = each_put (λ x. AreDifferent x.roles) xs e h.roles roles.0;
    }
    go false kind few = h

-- an entity that is kept adds none
pub length_known : (on : On) (kept : Kept) (entity : Option Entity) → IfSome entity (λ e. IsNamed (of_kind e.on kept) e.name)
    → length (put_each on (of_kind on kept) (if_any entity)) ≡ length (of_kind on kept)
length_known on kept None known = refl
length_known on kept (Some e) known = go (is_kind e.on on) refl
  where
    go : (t : Bool) → is_kind e.on on ≡ t → length (cond t (put (of_kind on kept) e) (of_kind on kept)) ≡ length (of_kind on kept)
    go true kind = length_named (of_kind on kept) e (subst (λ k. IsNamed (of_kind k kept) e.name) (kind_is e.on on kind) known)
    go false kind = refl

pub roles_any : (entity : Option Entity) → IfSome entity (λ e. AreDifferent e.roles) → Each (λ e. AreDifferent e.roles) (if_any entity)
roles_any None h = tt
roles_any (Some e) h = (h, tt)
