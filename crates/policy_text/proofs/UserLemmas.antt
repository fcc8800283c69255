-- The set of the roles that a line names.
use Rattle.std.proofs.Common.{ℕ, ◌≡◌, ◌<◌, ◌≤◌, ◌+◌, List, [], ◌∷◌, ◌++◌, length, take, refl, sym, ◌∙◌, ap, subst, Some}
use Rattle.std.proofs.Common.{None, map, get_or}
use Rattle.std.specs.Prelude.{slice_get}
use Rattle.role_order.specs.Names.{place_of}
use Rattle.role_order.specs.Roles.{with_role}
use Rattle.list_words.specs.Lists.{Some_of}
use Rattle.list_words.proofs.GetLemmas.{take_one_more, take_all, get_at, get_map}
use Rattle.list_words.proofs.EachLemmas.{some_at}
use Rattle.cond_text.specs.Named.{Names, NameEach, NamesSet, IsUnknown}
use Rattle.std.proofs.lemmas.List.Sums.{fold-append}

each_more : (names words : List (List ℕ)) (roles : List ℕ) (word : List ℕ) (role : ℕ) → NameEach names words roles → Names names word role
    → NameEach names (words ++ word ∷ []) (roles ++ role ∷ [])
each_more names [] roles word role n h = (role, [], h, refl, ap (λ (t : List ℕ). t ++ role ∷ []) n)
each_more names (first ∷ words) roles word role n h =
    (n.0, n.1 ++ role ∷ [], n.2, each_more names words n.1 word role n.3 h, ap (λ (t : List ℕ). t ++ role ∷ []) n.4)

pub set_none : (names words : List (List ℕ)) → NamesSet names (take 0 words) []
set_none names words = record { roles = []; named = refl; set_is = refl }

-- with one more name
pub set_more : (names words : List (List ℕ)) (at : ℕ) (word : List ℕ) (role : ℕ) (set more : List ℕ) → slice_get words at ≡ Some word
    → NamesSet names (take at words) set → place_of names word ≡ Some role
    → more ≡ with_role set role → NamesSet names (take (at + 1) words) more
set_more names words at word role set more get n h is = record {
  roles = n.roles ++ role ∷ [];
  named = subst (λ (t : List (List ℕ)). NameEach names t (n.roles ++ role ∷ [])) (sym (take_one_more words at word get))
      (each_more names (take at words) n.roles word role n.named h);
  set_is = is ∙ ap (λ (t : List ℕ). with_role t role) n.set_is ∙ sym (fold-append with_role [] n.roles (role ∷ []));
}

pub set_all : (names words : List (List ℕ)) (at : ℕ) (set : List ℕ) → length words ≤ at → NamesSet names (take at words) set
    → NamesSet names words set
set_all names words at set long n = subst (λ (t : List (List ℕ)). NamesSet names t set) (take_all words at long) n

pub unknown_at : (names words : List (List ℕ)) (at : ℕ) (word : List ℕ) → slice_get words at ≡ Some word → place_of names word ≡ None
    → Some_of (IsUnknown names) words
unknown_at names words at word get h = some_at (IsUnknown names) words at word get h

pub map_at : {A B : Type 0} (f : A → B) (xs : List A) (at : ℕ) (x : A) → at < length xs → slice_get (map f xs) at ≡ Some (f (get_or xs at x))
map_at f xs at x l = get_map f xs at (get_or xs at x) (get_at xs at x l)
