mod Crashes
mod Growth
mod Moments
mod Readers
mod Touching
