-- What the code reads of a form tells it: the sets are those of the roles named, and where nothing is left a name is that of no role.
use Rattle.std.proofs.Common.{ℕ, ◌≡◌, List, [], ◌∷◌, ◌++◌, append_assoc, append-nil, refl, sym, ◌∙◌, subst, Option}
use Rattle.std.proofs.Common.{Some, None, option_map, inl, inr, fold}
use Rattle.list_words.specs.Lists.{Some_of}
use Rattle.role_order.specs.Names.{place_of}
use Rattle.role_order.specs.Roles.{with_role}
use Rattle.arbac_policy.specs.declared.conjunct.Conjunct.{Conjunct}
use Rattle.arbac_laws.specs.Needs.{Need}
use Rattle.arbac_laws.specs.Views.{need_of}
use Rattle.cond_text.specs.Cuts.{◌>>=◌, cut}
use Rattle.cond_text.specs.Named.{NameEach, NamesSet, IsUnknown}
use Rattle.cert_text.specs.declared.line.Line.{Line}
use Rattle.cert_text.specs.declared.line.Line.TheVariants as v
use Rattle.cert_text.specs.declared.line.Keyword.{Keyword}
use Rattle.cert_text.specs.LineForms.{a_user}
use Rattle.cert_text.specs.Drafts.{NamesNeed, NameSets}
use Rattle.cert_text.specs.Views.{TellsUser, Tells}
use Rattle.cert_text.specs.Spelling.{user_in, user_line_in, word_in, keyword_in}
use Rattle.cert_text.specs.Spelling.{form_with, form_of}
use Rattle.cert_text.specs.Told.{IsGiven, Agrees, set_behind, set_named, with_set, sets_behind, need_with, user_named}
use Rattle.list_words.proofs.GetLemmas.{same_some}

-- nothing is left of what is missing
none_behind : (names words : List (List ℕ)) → set_behind names None words ≡ None
none_behind names [] = refl
none_behind names (word ∷ words) = none_behind names words

-- the set has the roles of these names besides those before
abbrev Grows : List (List ℕ) → List ℕ → Option (List ℕ) → List (List ℕ) → Type 0
Grows names start (Some set) words = (roles : List ℕ) × NameEach names words roles × (set ≡ fold with_role start roles)
Grows names start None words = Some_of (IsUnknown names) words

grows : (names : List (List ℕ)) (start : List ℕ) (words : List (List ℕ)) → Grows names start (set_behind names (Some start) words) words
grows names start [] = ([], refl, refl)
grows names start (word ∷ words) = by_place (place_of names word) refl (λ role. grows names (with_role start role) words)
  where
    more : (role : ℕ) → place_of names word ≡ Some role → (o : Option (List ℕ)) → Grows names (with_role start role) o words
        → Grows names start o (word ∷ words)
    more role e (Some set) g = (role ∷ g.0, (role, g.0, e, g.1, refl), g.2)
    more role e None g = inr g

    by_place : (o : Option ℕ) → place_of names word ≡ o
        → ((role : ℕ) → Grows names (with_role start role) (set_behind names (Some (with_role start role)) words) words)
        → Grows names start (set_behind names (o >>= λ role. Some (with_role start role)) words) (word ∷ words)
    by_place None e later =
        let P : Option (List ℕ) → Type 0 = λ o. Grows names start o (word ∷ words) in
        subst P (sym (none_behind names words)) (inl e)
    by_place (Some role) e later = more role e (set_behind names (Some (with_role start role)) words) (later role)

-- the set is that of the roles named; where there is none, a name is that of no role
abbrev TellsSet : List (List ℕ) → Option (List ℕ) → List (List ℕ) → Type 0
TellsSet names (Some set) words = NamesSet names words set
TellsSet names None words = Some_of (IsUnknown names) words

set_told : (names words : List (List ℕ)) → TellsSet names (set_named names words) words
set_told names words = by_set (set_named names words) (grows names [] words)
  where
    by_set : (o : Option (List ℕ)) → Grows names [] o words → TellsSet names o words
    by_set (Some set) g = record { roles = g.0; named = g.1; set_is = g.2 }
    by_set None g = g

no_sets_behind : (names : List (List ℕ)) (hits : List (List (List ℕ))) → sets_behind names None hits ≡ None
no_sets_behind names [] = refl
no_sets_behind names (hit ∷ hits) = no_sets_behind names hits

-- the sets are those of the hits, behind those before; where there are none, a name of a hit is that of no role
abbrev TellsSets : List (List ℕ) → List (List ℕ) → Option (List (List ℕ)) → List (List (List ℕ)) → Type 0
TellsSets names start (Some sets) hits = (rest : List (List ℕ)) × NameSets names hits rest × (sets ≡ start ++ rest)
TellsSets names start None hits = Some_of (Some_of (IsUnknown names)) hits

sets_told : (names start : List (List ℕ)) (hits : List (List (List ℕ))) → TellsSets names start (sets_behind names (Some start) hits) hits
sets_told names start [] = ([], refl, sym (append-nil start))
sets_told names start (hit ∷ hits) = by_set (set_named names hit) (set_told names hit) (λ set. sets_told names (start ++ set ∷ []) hits)
  where
    more : (set : List ℕ) → NamesSet names hit set → (o : Option (List (List ℕ))) → TellsSets names (start ++ set ∷ []) o hits
        → TellsSets names start o (hit ∷ hits)
    more set told (Some sets) g = (set ∷ g.0, (set, g.0, told, g.1, refl), g.2 ∙ append_assoc start (set ∷ []) g.0)
    more set told None g = inr g

    by_set : (o : Option (List ℕ)) → TellsSet names o hit
        → ((set : List ℕ) → TellsSets names (start ++ set ∷ []) (sets_behind names (Some (start ++ set ∷ [])) hits) hits)
        → TellsSets names start (sets_behind names (with_set (Some start) o) hits) (hit ∷ hits)
    by_set None told later =
        let P : Option (List (List ℕ)) → Type 0 = λ o. TellsSets names start o (hit ∷ hits) in
        subst P (sym (no_sets_behind names hits)) (inl told)
    by_set (Some set) told later = more set told (sets_behind names (Some (start ++ set ∷ [])) hits) (later set)

-- what is read of hits and lacks tells them
pub user_told : (names : List (List ℕ)) (hits : List (List (List ℕ))) (lacks : List (List ℕ)) (read : Option Conjunct)
    → option_map need_of read ≡ user_named names (hits, lacks) → TellsUser names read hits lacks
user_told names hits lacks read e =
    by_both (sets_behind names (Some []) hits) (set_named names lacks) (sets_told names [] hits) (set_told names lacks) read e
  where
    by_both : (sets : Option (List (List ℕ))) (set : Option (List ℕ)) → TellsSets names [] sets hits → TellsSet names set lacks
        → (read : Option Conjunct) → option_map need_of read ≡ need_with sets set → TellsUser names read hits lacks
    by_both None set h l None e = inl h
    by_both None set h l (Some user) e = absurd (cc)
    by_both (Some sets) None h l None e = inr l
    by_both (Some sets) None h l (Some user) e = absurd (cc)
    by_both (Some sets) (Some set) h l None e = absurd (cc)
    by_both (Some sets) (Some set) h l (Some user) e =
        let made : Need = record { hits = sets; lacks = set } in
        subst (NamesNeed names hits lacks) (sym (same_some (need_of user) made e)) (record {
          hits_are = subst (NameSets names hits) (sym h.2) h.1;
          lacks_are = l;
        })

-- a user line tells what is read of its pairs of words
pub user_tells : (names : List (List ℕ)) (rest : List ℕ) (read : Option Conjunct)
    → Some (option_map need_of read) ≡ option_map (user_named names) (user_in rest) → IsGiven (Tells names) (v.User read) (user_line_in rest)
unfolding user_line_in
user_tells names rest read e = by_user (user_in rest) refl e
  where
    by_user : (o : Option (List (List (List ℕ)) × List (List ℕ))) → user_in rest ≡ o → Some (option_map need_of read) ≡ option_map (user_named names) o
        → IsGiven (Tells names) (v.User read) (user_line_in rest)
    by_user None f e = absurd (cc)
    by_user (Some user) f e = record {
      value = a_user user.0 user.1;
      given_is = rw f refl;
      tells = (user.0, user.1, refl, user_told names user.0 user.1 read (same_some (option_map need_of read) (user_named names user) e));
    }

with_keyword : (bytes word rest : List ℕ) (keyword : Keyword) → Some (word, rest) ≡ cut 32 bytes → Some keyword ≡ keyword_in word
    → form_of bytes ≡ form_with (Some keyword) rest
unfolding form_of
with_keyword bytes word rest keyword e f = rw (← e, ← f) refl

-- a line with a keyword is read as what stands behind it
pub behind_keyword : (names : List (List ℕ)) (bytes word rest : List ℕ) (keyword : Keyword) (read : Option Line)
    → Some (word, rest) ≡ cut 32 bytes → Some keyword ≡ keyword_in word → Agrees (Tells names) read (form_with (Some keyword) rest)
    → Agrees (Tells names) read (form_of bytes)
behind_keyword names bytes word rest keyword read e f a =
    subst (Agrees (Tells names) read) (sym (with_keyword bytes word rest keyword e f)) a

alone : (bytes : List ℕ) → None ≡ cut 32 bytes → form_of bytes ≡ word_in bytes
unfolding form_of
alone bytes e = rw (← e) refl

-- a line of one word is read as that word
pub word_alone : (names : List (List ℕ)) (bytes : List ℕ) (read : Option Line) → None ≡ cut 32 bytes → Agrees (Tells names) read (word_in bytes)
    → Agrees (Tells names) read (form_of bytes)
word_alone names bytes read e a = subst (Agrees (Tells names) read) (sym (alone bytes e)) a
