-- What a backplane holds as it is made.
use Rattle.std.proofs.Common.{◌≡◌, ℕ, zero, suc, Bool, true, false, cond, List, get_or, replicate, refl, ap}
use Rattle.std.proofs.lemmas.Bool.{and_parts}
use Rattle.enclosure.specs.Ranges.{in_range}
use Rattle.enclosure.specs.declared.counts.PartCounts.{PartCounts}
use Rattle.backplane.specs.Configured.{configured, kept, none, well_formed}
use Rattle.backplane.specs.declared.configuration.Configuration.{Configuration}

-- each element of a list of one value, and what stands past it
pub filled : {X : Type 0} (n : ℕ) (d : X) (k : ℕ) → get_or (replicate n d) k d ≡ d
filled zero d k = refl
filled (suc n) d zero = refl
filled (suc n) d (suc k) = filled n d k

-- what gives nothing, asked or not
pub unset : {A : Type 0} (b : Bool) (x d : A) → x ≡ d → cond b x d ≡ d
unset true x d e = e
unset false x d e = refl

whole : (b room : Bool) (c : Configuration) → (b ≡ true → in_range c.counts ≡ true) → kept (cond b c none) room ≡ cond room (cond b c none) none
whole true true c h = ap (λ t. cond t c none) (h refl)
whole true false c h = refl
whole false true c h = refl
whole false false c h = refl

-- a configuration that was made is kept where there is room for it
pub kept_configured : (counts : PartCounts) (lock alarm : Bool) (ids : List ℕ) (room : Bool) → kept (configured counts lock alarm ids) room ≡ cond room (configured counts lock alarm ids) none
kept_configured counts lock alarm ids room = whole (well_formed counts ids) room _ (λ e. (and_parts (in_range counts) _ e).0)
