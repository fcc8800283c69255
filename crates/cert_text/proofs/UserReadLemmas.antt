-- How the code reads a user line, pair by pair.
use Rattle.std.proofs.Common.{ℕ, ◌≡◌, Bool, true, false, List, [], ◌∷◌, refl, sym, ap, Option, Some, None, option_map, cond}
use Rattle.std.specs.Prelude.{codes}
use Rattle.std.specs.Str.{bytes_eq}
use Rattle.cond_text.specs.Cuts.{cut}
use Rattle.cert_text.specs.Spelling.{pieces, list_in, hit_before, lacks_before, pairs_in, user_in}
use Rattle.cert_text.specs.Told.{set_named, with_set, need_with, user_behind}
use Rattle.list_words.proofs.GetLemmas.{same_some}
use Rattle.cert_text.proofs.PieceLemmas.{pieces_cut, pieces_one, pieces_some}

-- a hit in front of what is read
hit_more : (names : List (List ℕ)) (sets : Option (List (List ℕ))) (set : Option (List ℕ)) (list : Option (List (List ℕ)))
    (user : Option (List (List (List ℕ)) × List (List ℕ))) → Some set ≡ option_map (set_named names) list
    → option_map (user_behind names (with_set sets set)) user ≡ option_map (user_behind names sets) (hit_before list user)
hit_more names sets set None user e = absurd (cc)
hit_more names sets set (Some words) None e = refl
hit_more names sets set (Some words) (Some user) e =
    ap (λ s. Some (user_behind names (with_set sets s) user)) (same_some set (set_named names words) e)

-- lacks behind what is read
lacks_last : (names : List (List ℕ)) (sets : Option (List (List ℕ))) (set : Option (List ℕ)) (list : Option (List (List ℕ)))
    → Some set ≡ option_map (set_named names) list
    → Some (need_with sets set) ≡ option_map (user_behind names sets) (lacks_before list [])
lacks_last names sets set None e = absurd (cc)
lacks_last names sets set (Some words) e = ap (λ s. Some (need_with sets s)) (same_some set (set_named names words) e)

no_list : (names : List (List ℕ)) (list : Option (List (List ℕ))) → None ≡ option_map (set_named names) list → list ≡ None
no_list names None e = refl
no_list names (Some words) e = absurd (cc)

-- a pair that is a hit, and more words behind it
pub user_more : (names : List (List ℕ)) (sets : Option (List (List ℕ))) (set : Option (List ℕ)) (bytes key behind list after : List ℕ)
    → Some (key, behind) ≡ cut 32 bytes → Some (list, after) ≡ cut 32 behind → bytes_eq key (codes "hit") ≡ true
    → Some set ≡ option_map (set_named names) (list_in list)
    → option_map (user_behind names (with_set sets set)) (user_in after) ≡ option_map (user_behind names sets) (user_in bytes)
unfolding user_in pairs_in
user_more names sets set bytes key behind list after e f h l =
    rw (pieces_cut 32 bytes key behind (sym e), pieces_cut 32 behind list after (sym f), h)
    (hit_more names sets set (list_in list) (pairs_in (pieces 32 after)) l)

-- a pair that is a hit with a faulty list
pub user_stop : (names : List (List ℕ)) (bytes key behind list after : List ℕ) → Some (key, behind) ≡ cut 32 bytes
    → Some (list, after) ≡ cut 32 behind → bytes_eq key (codes "hit") ≡ true → None ≡ option_map (set_named names) (list_in list)
    → user_in bytes ≡ None
unfolding user_in pairs_in
user_stop names bytes key behind list after e f h l =
    rw (pieces_cut 32 bytes key behind (sym e), pieces_cut 32 behind list after (sym f), h, no_list names (list_in list) l) refl

-- a pair that is no hit, and more words behind it
pub user_other : (bytes key behind list after : List ℕ) → Some (key, behind) ≡ cut 32 bytes → Some (list, after) ≡ cut 32 behind
    → bytes_eq key (codes "hit") ≡ false → user_in bytes ≡ None
unfolding user_in pairs_in
user_other bytes key behind list after e f h =
    let some = pieces_some 32 after in
    rw (pieces_cut 32 bytes key behind (sym e), pieces_cut 32 behind list after (sym f), h, some.2) (by_key (bytes_eq key (codes "lack")) None refl)
  where
    by_key : (t : Bool) (o : Option (List (List (List ℕ)) × List (List ℕ))) → o ≡ None → cond t o None ≡ None
    by_key true o e = e
    by_key false o e = refl

-- a word without another behind it
pub user_odd : (bytes : List ℕ) → None ≡ cut 32 bytes → user_in bytes ≡ None
unfolding user_in pairs_in
user_odd bytes e = rw (pieces_one 32 bytes (sym e)) refl

-- the last pair
pub user_last : (bytes key behind : List ℕ) → Some (key, behind) ≡ cut 32 bytes → None ≡ cut 32 behind
    → user_in bytes ≡ pairs_in (key ∷ behind ∷ [])
unfolding user_in
user_last bytes key behind e f = rw (pieces_cut 32 bytes key behind (sym e), pieces_one 32 behind (sym f)) refl

-- the last pair is a hit
pub end_hit : (names : List (List ℕ)) (sets : Option (List (List ℕ))) (set : Option (List ℕ)) (key list : List ℕ) → bytes_eq key (codes "hit") ≡ true
    → Some set ≡ option_map (set_named names) (list_in list)
    → Some (need_with (with_set sets set) (Some [])) ≡ option_map (user_behind names sets) (pairs_in (key ∷ list ∷ []))
unfolding pairs_in
end_hit names sets set key list h l = rw h (hit_more names sets set (list_in list) (Some ([], [])) l)

-- the last pair is the lacks
pub end_lack : (names : List (List ℕ)) (sets : Option (List (List ℕ))) (set : Option (List ℕ)) (key list : List ℕ) → bytes_eq key (codes "hit") ≡ false
    → bytes_eq key (codes "lack") ≡ true → Some set ≡ option_map (set_named names) (list_in list)
    → Some (need_with sets set) ≡ option_map (user_behind names sets) (pairs_in (key ∷ list ∷ []))
unfolding pairs_in
end_lack names sets set key list h k l = rw (h, k) (lacks_last names sets set (list_in list) l)

-- the last pair has another word
pub end_other : (key list : List ℕ) → bytes_eq key (codes "hit") ≡ false → bytes_eq key (codes "lack") ≡ false → pairs_in (key ∷ list ∷ []) ≡ None
unfolding pairs_in
end_other key list h k = rw (h, k) refl

-- the last pair has a faulty list
pub end_stop : (names : List (List ℕ)) (key list : List ℕ) → None ≡ option_map (set_named names) (list_in list) → pairs_in (key ∷ list ∷ []) ≡ None
unfolding pairs_in
end_stop names key list l = rw (no_list names (list_in list) l) (by_hit (bytes_eq key (codes "hit")) (bytes_eq key (codes "lack")))
  where
    by_hit : (s t : Bool) → cond s (hit_before None (Some ([], []))) (cond t (lacks_before None []) None) ≡ None
    by_hit true t = refl
    by_hit false true = refl
    by_hit false false = refl
