-- What users of a requirement have, users of whatever it covers have too.
use Rattle.std.proofs.Common.{ℕ, ◌≤◌, List, length}
use Rattle.list_words.specs.Lists.{Each, Some_of}
use Rattle.list_words.proofs.CountLemmas.{embeds_long}
use Rattle.list_words.proofs.EachLemmas.{each_of, some_item, some_one_at}
use Rattle.role_order.specs.Roles.{IsIn}
use Rattle.arbac_laws.specs.Needs.{Covers, CoversNeed, Need}
use Rattle.arbac_laws.proofs.CoverLemmas.{covers_need}
use Rattle.search_laws.specs.Pruning.{HasHitWithin}
use Rattle.search_laws.proofs.AdminLemmas.{wants}

-- a hit within the set contains one of what is covered
pub hit_covered : (set : List ℕ) (a b : Need) → CoversNeed a b → HasHitWithin set a → HasHitWithin set b
hit_covered set a b c h = (covers_need (wants set) a b (record { hits = (h, tt); lacks = λ role k. cc }) c).hits.0

-- each lack is lacked
pub lack_covered : (role : ℕ) (a b : Need) → CoversNeed a b → IsIn a.lacks role → IsIn b.lacks role
lack_covered role a b c h = c.lacks role h

-- what holds of the covered user where it holds of the covering one, holds of some user there as it does here
pub some_covered : (P : Need → Type 0) → ((a b : Need) → CoversNeed a b → P a → P b) → (a b : List Need) → Covers a b → Some_of P a
    → Some_of P b
some_covered P over a b f some =
    let one = some_item P a some in let there = f.each one.1.0 one.0 one.1.1 in
    some_one_at P b there.0 (f.to one.1.0, there.1) (over one.0 there.0 there.2 one.2)

-- each user covers some user
pub users_covered : (a b : List Need) → Covers a b → Each (λ need. Some_of (CoversNeed need) b) a
users_covered a b f = each_of (λ need. Some_of (CoversNeed need) b) a (λ k need at.
    let there = f.each k need at in some_one_at (CoversNeed need) b there.0 (f.to k, there.1) there.2)

-- as many users or more
pub fewer_covering : (a b : List Need) → Covers a b → length a ≤ length b
fewer_covering a b f = embeds_long CoversNeed a b f
