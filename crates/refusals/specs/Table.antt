-- The table of refusals: the number and the layer of each, and each layer's name.
use Rattle.std.specs.Prelude.{List, ℕ, ◌++◌, codes, decimal}
use Rattle.refusals.specs.declared.Fault.{Fault}
use Rattle.refusals.specs.declared.Layer.{Layer}
use Rattle.refusals.specs.declared.Layer.TheVariants.{Words, Grammar, Names, Nodes, Watch, Kind}
use Rattle.refusals.specs.declared.Refusal.{Refusal}
use Rattle.refusals.specs.declared.Refusal.TheVariants.{StrayByte, NotAName, Misplaced, TooDeep, UnknownName, TooManyNodes, TextTooLong, BadNames, BadNodes, UnknownTest, NothingWhole, Shut, LimitReached, DeadEnd, ListTooShort, MemoryTooShort, BytesReversed, TooWide, WrongLength, BitPastWidth, BadRowTest, KindFull, TooManyTests}

-- the number that tells a refusal
abbrev pub number_of : Refusal → ℕ
number_of StrayByte = 11
number_of NotAName = 12
number_of Misplaced = 13
number_of TooDeep = 14
number_of UnknownName = 15
number_of TooManyNodes = 16
number_of TextTooLong = 17
number_of BadNames = 18
number_of BadNodes = 19
number_of UnknownTest = 21
number_of NothingWhole = 22
number_of Shut = 23
number_of LimitReached = 31
number_of DeadEnd = 32
number_of ListTooShort = 33
number_of MemoryTooShort = 34
number_of BytesReversed = 41
number_of TooWide = 42
number_of WrongLength = 43
number_of BitPastWidth = 44
number_of BadRowTest = 45
number_of KindFull = 46
number_of TooManyTests = 47

-- the layer that a refusal comes from
abbrev pub layer_of : Refusal → Layer
layer_of StrayByte = Words
layer_of NotAName = Words
layer_of Misplaced = Grammar
layer_of TooDeep = Grammar
layer_of UnknownName = Names
layer_of TooManyNodes = Nodes
layer_of TextTooLong = Words
layer_of BadNames = Names
layer_of BadNodes = Nodes
layer_of UnknownTest = Watch
layer_of NothingWhole = Watch
layer_of Shut = Watch
layer_of LimitReached = Watch
layer_of DeadEnd = Watch
layer_of ListTooShort = Watch
layer_of MemoryTooShort = Names
layer_of BytesReversed = Kind
layer_of TooWide = Kind
layer_of WrongLength = Kind
layer_of BitPastWidth = Kind
layer_of BadRowTest = Kind
layer_of KindFull = Kind
layer_of TooManyTests = Kind

-- a layer's name, as it is printed
abbrev pub name_of : Layer → List ℕ
name_of Words = codes "words"
name_of Grammar = codes "grammar"
name_of Names = codes "names"
name_of Nodes = codes "nodes"
name_of Watch = codes "watch"
name_of Kind = codes "kind"

-- a fault, as it is printed: its number, its layer and its place, parted by one space
abbrev pub fault_text : Fault → List ℕ
fault_text f = decimal (number_of f.refusal) ++ codes " " ++ name_of (layer_of f.refusal) ++ codes " " ++ decimal f.place
