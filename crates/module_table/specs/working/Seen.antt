-- The slots as the code has them, with references into the tree, and what they stand for.
use Rattle.module_table.specs.declared.slots.Asked.{Asked as Asked_in_code}
use Rattle.module_table.specs.declared.slots.Asked.TheVariants.{Anything, Concept, Enhancement, Realization, RealizationOf}
use Rattle.module_table.specs.declared.slots.Slot.{Slot as Slot_in_code}
use Rattle.module_table.specs.Slots.{Asked, Slot, slot}

abbrev pub seen_asked : Asked_in_code → Asked
seen_asked Anything = Asked.Anything
seen_asked Concept = Asked.AConcept
seen_asked (Enhancement concept) = Asked.AnEnhancement concept.now
seen_asked (Realization concept) = Asked.ARealization concept.now
seen_asked (RealizationOf enhancement concept) = Asked.ARealizationOf enhancement.now concept.now

abbrev pub seen : Slot_in_code → Slot
seen s = slot s.name.now s.at (seen_asked s.asked)
