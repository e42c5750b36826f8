pub mod StemsTaken
