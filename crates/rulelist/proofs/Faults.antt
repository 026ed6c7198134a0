-- A fault as it prints itself, after the word `fault`, is the line of the fault.
use Rattle.std.proofs.Common.{◌≡◌, ℕ, List, ◌++◌, codes, decimal, refl, ap}
use Rattle.std.proofs.lemmas.List.{append_assoc}
use Rattle.refusals.specs.declared.Fault.{Fault}
use Rattle.refusals.specs.Table.{number_of, layer_of, name_of, fault_text}
use Rattle.rulelist.specs.Listing.{fault_line}

-- three parts with a space between, and a newline behind
parted : (n s l p e : List ℕ) → n ++ s ++ l ++ s ++ p ++ e ≡ n ++ (s ++ (l ++ (s ++ (p ++ e))))
parted n s l p e = simp append_assoc refl

pub printed : (f : Fault) → codes "fault " ++ (fault_text f ++ codes "\n") ≡ fault_line f
printed f = ap (λ xs. codes "fault " ++ xs) (parted (decimal (number_of f.refusal)) (codes " ") (name_of (layer_of f.refusal)) (decimal f.place) (codes "\n"))
