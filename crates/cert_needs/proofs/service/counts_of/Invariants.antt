use Rattle.std.proofs.Common.{◌≡◌, map, take}
use Rattle.arbac_policy.specs.declared.profile.Profile.{Profile}
use Rattle.cert_needs.proofs.service.counts_of.Given as goal

abbrev pub invariant-loop-profile : goal.invariant-loop-profile
invariant-loop-profile l = l.counts.items ≡ map (λ (p : Profile). p.most) (take l.profile-index l.profiles)
