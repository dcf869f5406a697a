-- The faults of reading an area, from those of its image.
use Rattle.std.specs.Prelude.{◌+◌, ◌≤◌, ◌^◌, ⊤}
use Rattle.state_image.specs.declared.fault.ImageFault.{ImageFault}
use Rattle.state_image.specs.declared.fault.ImageFault.TheVariants as image
use Rattle.image_files.specs.declared.fault.ReadFault.{ReadFault}
use Rattle.image_files.specs.declared.fault.ReadFault.TheVariants.{Damaged, NoMemory}

-- a place in the image stands 8 bytes farther on in the area
abbrev pub of_image : ImageFault → ReadFault
of_image (image.Damaged at) = Damaged (8 + at)
of_image image.NoMemory = NoMemory

-- the place is one in an image
abbrev pub HasPlace : ImageFault → Type 0
HasPlace (image.Damaged at) = at ≤ 2 ^ 37
HasPlace image.NoMemory = ⊤
