-- The number of each refusal (rules, section 8).
-- Assumes nothing.
use Rattle.std.specs.Prelude.{ℕ}
use Rattle.refusal.specs.declared.Refusal.{Refusal}
use Rattle.refusal.specs.declared.Refusal.TheVariants.{TooShort, WrongFileLength, TooManyFrames, TableOutside, NoSuchFrame}
use Rattle.refusal.specs.declared.Refusal.TheVariants.{UnknownKind, WrongSize, PixelsOutside, DepthNotOffered, NotWholeSamples}
use Rattle.refusal.specs.declared.Refusal.TheVariants.{WrongDestinationLength, SampleTooGreat, ChromaZero, TotalTooLong, InputTooLong}
use Rattle.refusal.specs.declared.Refusal.TheVariants.{NotWholePixels, NotFinite, NoBudget, TooManyPixels, WrongRecordSize, WrongStride, WrongArrival}

abbrev pub number_of : Refusal → ℕ
number_of TooShort = 1
number_of WrongFileLength = 2
number_of TooManyFrames = 3
number_of TableOutside = 4
number_of NoSuchFrame = 5
number_of UnknownKind = 6
number_of WrongSize = 7
number_of PixelsOutside = 8
number_of DepthNotOffered = 9
number_of NotWholeSamples = 10
number_of WrongDestinationLength = 11
number_of SampleTooGreat = 12
number_of ChromaZero = 13
number_of TotalTooLong = 14
number_of InputTooLong = 15
number_of NotWholePixels = 16
number_of NotFinite = 17
number_of NoBudget = 18
number_of TooManyPixels = 19
number_of WrongRecordSize = 20
number_of WrongStride = 21
number_of WrongArrival = 22
